use Rattle.rulesets.proofs.ruleset.member_set.Given as goal
use Rattle.rulesets.specs.Rulesets.{IsSetOfAll}
use Rattle.std.proofs.Common.{◌≤◌, length}
use Rattle.table.proofs.Tails.{tail}
use Rattle.table.specs.Tables.{contents_of}

-- the members of the aggregates from place j on are in the set
abbrev pub invariant-loop-j : goal.invariant-loop-j
invariant-loop-j l =
    (l.j-start ≤ l.initial.j → l.j-start ≤ l.j)
    × (l.initial.j ≤ length (contents_of l.table).aggregates → IsSetOfAll l.set (tail (contents_of l.table).aggregates l.initial.j l.j))
