use Rattle.format.proofs.Verdicts.{goes_past, leaves_here}
use Rattle.sheet.proofs.sheet.Sheet.check_why.Goals as goal

pub returns-in_err-check_weighing : goal.returns-in_err-check_weighing
returns-in_err-check_weighing g c = leaves_here c.from_residual.result c.in_err-check_weighing.field-0.0 c.from_residual.ensures.1 _ _ _ c.in_err-check_weighing.ensures

pub returns : goal.returns
returns g c = goes_past c.check_part.result _ _ _ c.in_ok-check_weighing.ensures c.check_part.ensures
