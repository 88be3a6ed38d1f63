use Rattle.format.proofs.Verdicts.{clean, ends_clean, leaves_last}
use Rattle.sheet.proofs.Reasons.{why_account, why_outcome}
use Rattle.sheet.proofs.Refused.{why_statements}
use Rattle.sheet.proofs.sheet.Sheet.explained.Goals as goal
use Rattle.sheet.specs.Outcomes.{why_faults}
use Rattle.solver.specs.Support.{row_read, support_of}
use Rattle.std.proofs.Common.{◌∙◌, ap, sym}
use Rattle.table.specs.Tables.{program_of}

pub returns-in_err-check_why-clause-value : goal.returns-in_err-check_why-clause-value
returns-in_err-check_why-clause-value g c = leaves_last c.from_residual.result c.in_err-check_why.field-0.0 c.from_residual.ensures.1 _ _ c.in_err-check_why.ensures

-- where nothing is refused, the table has as many statements as the sheet
pub returns-clause-value : goal.returns-clause-value
returns-clause-value g c =
    let n = c.args.self.now.statements in
    let faults = why_faults (g.F.Family.size c.args.family.now) c.args.table.now.bytes.now n c.args.statement c.args.row.now in
    let same = why_statements (g.F.Family.size c.args.family.now) c.args.table.now.bytes.now n c.args.statement c.args.row.now (clean faults (tt {0}) (tt {0}) (sym c.in_ok-check_why.ensures)) in
    ends_clean faults c.find_support.result _ c.in_ok-check_why.ensures
    (c.find_support.ensures.value ∙ ap (λ k. support_of (g.F.Family.value c.args.family.now) (program_of c.args.table.now) (row_read k c.args.row.now) c.args.statement) same)

-- what the value is means that the rest is so
pub returns-in_err-check_why-clause-outcome : goal.returns-in_err-check_why-clause-outcome
returns-in_err-check_why-clause-outcome g c = why_outcome _ _ _ _ _ _ c.from_residual.result (returns-in_err-check_why-clause-value g c)

pub returns-in_err-check_why-clause-account : goal.returns-in_err-check_why-clause-account
returns-in_err-check_why-clause-account g c = why_account _ _ _ _ _ _ c.from_residual.result (returns-in_err-check_why-clause-value g c)

pub returns-clause-outcome : goal.returns-clause-outcome
returns-clause-outcome g c = why_outcome _ _ _ _ _ _ _ (returns-clause-value g c)

pub returns-clause-account : goal.returns-clause-account
returns-clause-account g c = why_account _ _ _ _ _ _ _ (returns-clause-value g c)
