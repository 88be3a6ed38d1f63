use Rattle.sheet.proofs.Sought.{told_for}
use Rattle.sheet.proofs.writing.weighing.Goals as goal
use Rattle.table.specs.Tables.{program_of}

pub returns : goal.returns
returns g c =
    told_for (g.F.Family.value c.args.family.now) (program_of c.args.table.now) c.args.findings.now c.args.statement c.weigh.result (rw (c.new.ensures.table, c.new.ensures.family, c.start.ensures) at c.weigh.ensures) c.requires
