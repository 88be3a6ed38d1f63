use Rattle.drawing.proofs.rules.apply_rules.Given as goal
use Rattle.drawing.specs.Sweeps.{AllStanding, Counted, RulesApplied}
use Rattle.judging.specs.Rulebooks.{program_in}
use Rattle.judging.specs.Rulebooks.{contents_in}

-- the rules before this one are done
abbrev pub invariant-loop-i : goal.invariant-loop-i
invariant-loop-i g l =
    Counted (g.F.Family.value l.book.family.now) (contents_in l.book).rules 0 l.initial.marking l.initial.supports.by
    → AllStanding (g.F.Family.value l.book.family.now) (contents_in l.book).rules l.initial.marking l.initial.supports.by
    → RulesApplied (g.F.Family.value l.book.family.now) (program_in l.book) l.i l.initial.marking l.marking l.supports.by
