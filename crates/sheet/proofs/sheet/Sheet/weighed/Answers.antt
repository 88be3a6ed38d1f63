use Rattle.sheet.proofs.Apart.{noted_apart}
use Rattle.sheet.proofs.Refused.{answered, refused, same_statements}
use Rattle.sheet.proofs.sheet.Sheet.weighed.Goals as goal
use Rattle.format.specs.Faults.{unless}
use Rattle.refusal.specs.declared.Refusal.TheVariants.{UnknownStatement}
use Rattle.std.proofs.Common.{nat_lt}
use Rattle.sheet.specs.Outcomes.{weighing_faults}
use Rattle.sheet.specs.Sheets.{standing}
use Rattle.solver.specs.Accounts.{WeighsFor}
use Rattle.table.specs.Tables.{program_of}

pub returns-in_err-check_weighing : goal.returns-in_err-check_weighing
returns-in_err-check_weighing g c = refused _ _ c.from_residual.result c.in_err-check_weighing.field-0.0 c.from_residual.ensures.1 c.in_err-check_weighing.ensures

pub weighing-requires : goal.weighing-requires
weighing-requires g c =
    let s = c.args.self.now in
    let more = unless (nat_lt c.args.statement s.statements) UnknownStatement c.args.statement in
    rw c.findings.ensures.value (noted_apart (program_of c.args.table.now) s.statements (standing s) (same_statements (g.F.Family.size c.args.family.now) c.args.table.now.bytes.now s.statements more c.in_ok-check_weighing.ensures) s.apart)

pub returns : goal.returns
returns g c =
    let s = c.args.self.now in
    answered (weighing_faults (g.F.Family.size c.args.family.now) c.args.table.now.bytes.now s.statements c.args.statement) (WeighsFor (g.F.Family.value c.args.family.now) (program_of c.args.table.now) (standing s) c.args.statement) c.weighing.result c.in_ok-check_weighing.ensures (rw c.findings.ensures.value at c.weighing.ensures)
