use Rattle.sheet.proofs.writing.start.Goals as goal
use Rattle.solver.proofs.Starting.{noted_start}

pub returns : goal.returns
returns c = noted_start c.args.table.now.bytes.now c.args.findings.now _ c.noted.result c.statements.ensures c.noted.ensures
