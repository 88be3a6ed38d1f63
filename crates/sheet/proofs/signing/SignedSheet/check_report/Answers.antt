use Rattle.format.proofs.Verdicts.{goes_past, leaves_here}
use Rattle.sheet.proofs.signing.SignedSheet.check_report.Goals as goal

pub returns-in_err-check_table : goal.returns-in_err-check_table
returns-in_err-check_table g c = leaves_here c.from_residual.result c.in_err-check_table.field-0.0 c.from_residual.ensures.1 _ _ _ c.in_err-check_table.ensures

pub returns : goal.returns
returns g c = goes_past c.demand.result _ _ _ c.in_ok-check_table.ensures c.demand.ensures
