use Rattle.drawing.proofs.sweeping.settle.Given as goal
use Rattle.drawing.specs.Deriving.{Derived}
use Rattle.marking.specs.Marks.{how_open}
use Rattle.judging.specs.Rulebooks.{program_in}

abbrev pub invariant-loop-marking : goal.invariant-loop-marking
invariant-loop-marking g l = Derived (g.F.Family.value l.book.family.now) (program_in l.book) l.initial.marking l.marking

-- each sweep but the last leaves fewer statements open
abbrev pub decreases-loop-marking : goal.decreases-loop-marking
decreases-loop-marking g l = how_open l.marking
