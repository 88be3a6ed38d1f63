use Rattle.std.proofs.Common.{◌≤◌, length}
use Rattle.family.specs.Readings.{Judges}
use Rattle.judging.proofs.rulebook.Rulebook.judge_aggregates.Given as goal
use Rattle.judging.specs.Bodies.{AllCertain, SomeImpossible}
use Rattle.table.proofs.Tails.{tail}
use Rattle.judging.specs.Rulebooks.{contents_in}

-- the aggregates from place j on are judged
abbrev pub invariant-loop-j : goal.invariant-loop-j
invariant-loop-j g l =
    (l.j-start ≤ l.initial.j → l.j-start ≤ l.j)
    × (l.initial.j ≤ length (contents_in l.self).aggregates → Judges l.all
    (AllCertain (g.F.Family.value l.self.family.now) l.marking (tail (contents_in l.self).aggregates l.initial.j l.j))
    (SomeImpossible (g.F.Family.value l.self.family.now) l.marking (tail (contents_in l.self).aggregates l.initial.j l.j)))
