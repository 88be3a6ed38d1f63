use Rattle.format.specs.Faults.{unless}
use Rattle.refusal.specs.declared.Refusal.TheVariants.{ReportTooShort}
use Rattle.sheet.proofs.Apart.{noted_apart}
use Rattle.sheet.proofs.Refused.{refused, reported, same_statements, stays}
use Rattle.sheet.proofs.signing.SignedSheet.report.Goals as goal
use Rattle.sheet.specs.Sheets.{standing}
use Rattle.std.proofs.Common.{length, nat_le}
use Rattle.table.specs.Tables.{program_of}

pub returns-in_err-check_report : goal.returns-in_err-check_report
returns-in_err-check_report g c =
    (refused _ _ c.from_residual.result c.in_err-check_report.field-0.0 c.from_residual.ensures.1 c.in_err-check_report.ensures, stays c.args.out.now c.from_residual.result)

pub earliest-account-requires : goal.earliest-account-requires
earliest-account-requires g c =
    let s = c.args.self.now.sheet in
    let more = unless (nat_le 4620 (length c.args.out.now)) ReportTooShort 0 in
    rw c.findings.ensures.value (noted_apart (program_of c.args.table.now) s.statements (standing s) (same_statements (g.F.Family.size c.args.family.now) c.args.table.now.bytes.now s.statements more c.in_ok-check_report.ensures) s.apart)

pub returns : goal.returns
returns g c =
    let s = c.args.self.now.sheet in
    let b = c.args.table.now.bytes.now in
    let kinds = g.F.Family.size c.args.family.now in
    let value = g.F.Family.value c.args.family.now in
    reported kinds b s.statements value (standing s) c.args.out.now c.write_account.new.out c.write_account.result c.earliest-account.result c.in_ok-check_report.ensures (rw c.findings.ensures.value at c.earliest-account.ensures) (rw c.marks_of.ensures at c.write_account.ensures)
