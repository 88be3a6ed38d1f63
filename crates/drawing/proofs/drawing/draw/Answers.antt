use Rattle.drawing.proofs.Ending.{accounts_kept}
use Rattle.drawing.proofs.drawing.draw.Goals as goal
use Rattle.table.specs.Contents.{program}
use Rattle.table.specs.Tables.{program_of}

pub returns : goal.returns
returns g c =
    let value = g.F.Family.value c.args.family.now in
    let p = program_of c.args.table.now in
    record {
      drawn = rw c.start.ensures.noted at c.draw_from.ensures.drawn;
      accounts = accounts_kept value p c.args.findings.now _ c.start.ensures.agreed c.draw_from.result c.draw_from.ensures.answers;
    }
