use Rattle.marking.specs.Marks.{how_open}
use Rattle.search.proofs.search.narrow.Given as goal
use Rattle.search.specs.Nogoods.{Fitting, Narrows, Sound}
use Rattle.std.proofs.Common.{◌≤◌}

abbrev pub invariant-loop-nogood : goal.invariant-loop-nogood
invariant-loop-nogood g l =
    let fits = Fitting (g.P.Problem.fits l.problem) (g.P.Problem.size l.problem) in
    (how_open l.marking ≤ how_open l.initial.marking)
    × (Sound fits l.initial.memory.nogoods.kept → Sound fits l.memory.nogoods.kept × Narrows fits l.initial.marking l.marking)

-- each mark leaves fewer statements open
abbrev pub decreases-loop-nogood : goal.decreases-loop-nogood
decreases-loop-nogood g l = how_open l.marking
