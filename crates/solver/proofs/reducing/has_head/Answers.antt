use Rattle.semantics.specs.FullMarkings.{row_of}
use Rattle.solver.proofs.Heads.{some_told}
use Rattle.solver.proofs.reducing.has_head.Goals as goal
use Rattle.table.specs.Tables.{nth_rule}

pub returns : goal.returns
returns c = some_told (row_of c.args.row.now) (nth_rule c.args.rules.now.table.now c.args.i) c.heads_in.result c.heads_in.ensures c.is_empty.result c.is_empty.ensures.none c.is_empty.ensures.some
