use Rattle.sheet.proofs.Bytes.{account_long, found_to}
use Rattle.sheet.proofs.writing.write_earliest.Goals as goal
use Rattle.std.proofs.Common.{arith}
use Rattle.table.specs.Tables.{program_of}

pub write_marks-requires : goal.write_marks-requires
write_marks-requires g c =
    omega (arith, c.requires.room, account_long (g.F.Family.value c.args.family.now) (program_of c.args.table.now) c.args.findings.now c.args.part.now c.args.part.now c.in_ok-account.account c.in_ok-account.ensures)

pub returns : goal.returns
returns g c =
    found_to (g.F.Family.value c.args.family.now) (program_of c.args.table.now) c.args.findings.now c.args.part.now _ c.in_ok-account.account c.in_ok-account.ensures c.write_marks.ensures
