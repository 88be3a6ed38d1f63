use Rattle.drawing.proofs.Applying.{applied_failed, applied_forced, applied_none, applied_weaker}
use Rattle.drawing.proofs.Deriving.{failed_broken}
use Rattle.drawing.proofs.demands.meet.Goals as goal
use Rattle.std.proofs.Common.{Ok, sym, ◌∙◌, ap}

pub returns-in_err-literal : goal.returns-in_err-literal
returns-in_err-literal c = λ value p g d.
    let here = sym c.demand_of.ensures ∙ c.in_err-literal.was in
    applied_failed value p _ _ c.from_residual.result _ c.from_residual.ensures.0 (failed_broken value p _ (rw here at d))

pub returns-in-Some : goal.returns-in-Some
returns-in-Some c = λ value p g d.
    let here = sym c.demand_of.ensures ∙ c.in_ok-literal.was ∙ ap Ok c.in-Some.is in
    let w = rw here at d in
    applied_weaker value p _ _ _ _ c.force.result w.1 (applied_forced value p _ c.in-Some.literal.statement c.in-Some.literal.present w.0 _ c.force.result c.force.ensures)

pub returns-in-None : goal.returns-in-None
returns-in-None c = λ value p g d.
    let here = sym c.demand_of.ensures ∙ c.in_ok-literal.was ∙ ap Ok c.in-None.is in
    applied_none value p _ _ (rw here at d)
