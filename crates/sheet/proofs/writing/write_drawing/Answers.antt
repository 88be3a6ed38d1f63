use Rattle.sheet.proofs.Bytes.{drawn_long, drawn_to}
use Rattle.sheet.proofs.writing.write_drawing.Goals as goal
use Rattle.std.proofs.Common.{arith}
use Rattle.table.specs.Tables.{program_of}

pub write_marks-requires : goal.write_marks-requires
write_marks-requires g c =
    omega (arith, c.requires, drawn_long (g.F.Family.value c.args.family.now) (program_of c.args.table.now) c.args.findings.now c.args.part.now c.args.part.now c.in-Some.marks c.in-Some.ensures.drawn)

pub returns : goal.returns
returns g c =
    drawn_to (g.F.Family.value c.args.family.now) (program_of c.args.table.now) c.args.findings.now c.args.part.now _ c.in-Some.marks c.in-Some.ensures.drawn c.in-Some.ensures.accounts c.write_marks.ensures
