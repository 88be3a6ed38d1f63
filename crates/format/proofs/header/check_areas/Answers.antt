use Rattle.format.proofs.Verdicts.{at_area, each_leaves, each_more, each_passed, every_area_each}
use Rattle.format.proofs.header.check_areas.Goals as goal
use Rattle.std.proofs.Common.{arith}

pub returns-in_err-check : goal.returns-in_err-check
returns-in_err-check g c =
    rw every_area_each (each_leaves _ (at_area g.found) 6 _ _ c.from_residual.ensures.1 (c.requires.1.1 _ _ c.in_err-check.ensures) c.loop-area-test.true c.loop-area.invariant)

pub loop-area-preserved : goal.loop-area-preserved
loop-area-preserved g c = each_more (at_area g.found) _ c.loop-area.invariant (c.requires.1.1 _ _ c.in_ok-check.ensures)

pub returns : goal.returns
returns g c = rw every_area_each (each_passed (at_area g.found) 6 _ (λ k h. c.loop-area.invariant k (omega arith)))
