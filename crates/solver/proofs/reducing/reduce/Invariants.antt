use Rattle.rulesets.specs.Judging.{program_in}
use Rattle.semantics.specs.FullMarkings.{row_of}
use Rattle.solver.proofs.Obeying.{HeadsBefore}
use Rattle.solver.proofs.reducing.reduce.Given as goal
use Rattle.solver.specs.Reducts.{Reduces, Whole}

-- the rules before this one are looked at
abbrev pub invariant-loop-i : goal.invariant-loop-i
invariant-loop-i g l =
    Whole (program_in l.judge).statements l.row
    → Reduces (g.F.Family.value l.judge.family.now) (program_in l.judge).rules (row_of l.row) l.i l.reduct.kept
    × HeadsBefore (g.F.Family.value l.judge.family.now) (program_in l.judge).rules (row_of l.row) l.i
