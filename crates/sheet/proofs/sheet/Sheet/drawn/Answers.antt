use Rattle.sheet.proofs.Refused.{answered, refused, stays, writing_fits}
use Rattle.sheet.proofs.sheet.Sheet.drawn.Goals as goal

pub returns-in_err-check_writing : goal.returns-in_err-check_writing
returns-in_err-check_writing g c = (refused _ _ c.from_residual.result c.in_err-check_writing.field-0.0 c.from_residual.ensures.1 c.in_err-check_writing.ensures, stays c.args.part.now c.from_residual.result)

pub write_drawing-requires : goal.write_drawing-requires
write_drawing-requires g c =
    writing_fits (g.F.Family.size c.args.family.now) c.args.table.now.bytes.now c.args.self.now.statements c.args.part.now c.in_ok-check_writing.ensures

pub returns : goal.returns
returns g c = (answered _ _ c.write_drawing.result c.in_ok-check_writing.ensures (rw c.findings.ensures.value at c.write_drawing.ensures), tt)
