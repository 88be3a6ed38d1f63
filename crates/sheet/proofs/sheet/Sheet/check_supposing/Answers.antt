use Rattle.format.proofs.Verdicts.{goes_past, leaves_here}
use Rattle.sheet.proofs.sheet.Sheet.check_supposing.Goals as goal

pub returns-in_err-check_table-clause-verdict : goal.returns-in_err-check_table-clause-verdict
returns-in_err-check_table-clause-verdict g c = leaves_here c.from_residual.result c.in_err-check_table.field-0.0 c.from_residual.ensures.1 _ _ _ c.in_err-check_table.ensures

pub returns-clause-verdict : goal.returns-clause-verdict
returns-clause-verdict g c = goes_past c.check_entry.result _ _ _ c.in_ok-check_table.ensures c.check_entry.ensures.verdict
