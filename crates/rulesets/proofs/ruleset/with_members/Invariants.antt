use Rattle.rulesets.proofs.ruleset.with_members.Given as goal
use Rattle.rulesets.specs.Rulesets.{IsMembers}
use Rattle.std.proofs.Common.{◌≤◌, length}
use Rattle.table.proofs.Tails.{tail}
use Rattle.table.specs.Tables.{contents_of}

-- the members from place k on are in the set
abbrev pub invariant-loop-k : goal.invariant-loop-k
invariant-loop-k l =
    (l.k-start ≤ l.initial.k → l.k-start ≤ l.k)
    × (l.initial.k ≤ length (contents_of l.table).members → IsMembers l.set l.initial.set (tail (contents_of l.table).members l.initial.k l.k))
