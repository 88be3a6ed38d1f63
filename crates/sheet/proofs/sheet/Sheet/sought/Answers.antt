use Rattle.sheet.proofs.Apart.{noted_apart}
use Rattle.sheet.proofs.Refused.{answered, refused, same_statements, stays, writing_fits}
use Rattle.sheet.proofs.sheet.Sheet.sought.Goals as goal
use Rattle.sheet.specs.Outcomes.{part_faults}
use Rattle.sheet.specs.Standing.{listed}
use Rattle.table.specs.Tables.{program_of}

pub returns-in_err-check_writing : goal.returns-in_err-check_writing
returns-in_err-check_writing g c = (refused _ _ c.from_residual.result c.in_err-check_writing.field-0.0 c.from_residual.ensures.1 c.in_err-check_writing.ensures, stays c.args.part.now c.from_residual.result)

pub write_earliest-requires-clause-room : goal.write_earliest-requires-clause-room
write_earliest-requires-clause-room g c =
    writing_fits (g.F.Family.size c.args.family.now) c.args.table.now.bytes.now c.args.self.now.statements c.args.part.now c.in_ok-check_writing.ensures

pub write_earliest-requires-clause-noted : goal.write_earliest-requires-clause-noted
write_earliest-requires-clause-noted g c =
    let s = c.args.self.now in
    rw c.findings.ensures.value (noted_apart (program_of c.args.table.now) s.statements (listed s.findings) (same_statements (g.F.Family.size c.args.family.now) c.args.table.now.bytes.now s.statements (part_faults s.statements c.args.part.now) c.in_ok-check_writing.ensures) s.apart)

pub returns : goal.returns
returns g c = (answered _ _ c.write_earliest.result c.in_ok-check_writing.ensures (rw c.findings.ensures.value at c.write_earliest.ensures), tt)
