use Rattle.rulesets.proofs.ruleset.literal_set.Given as goal
use Rattle.rulesets.specs.Rulesets.{IsSet}
use Rattle.std.proofs.Common.{◌≤◌, length}
use Rattle.table.proofs.Tails.{tail}
use Rattle.table.specs.Tables.{contents_of}

-- the literals from place k on are in the set
abbrev pub invariant-loop-k : goal.invariant-loop-k
invariant-loop-k l =
    (l.k-start ≤ l.initial.k → l.k-start ≤ l.k)
    × (l.initial.k ≤ length (contents_of l.table).literals → IsSet l.set (tail (contents_of l.table).literals l.initial.k l.k))
