use Rattle.semantics.proofs.FullMarkings.{in_row}
use Rattle.semantics.specs.FullMarkings.{row_of}
use Rattle.solver.proofs.Heads.{only_told}
use Rattle.solver.proofs.support.is_only_head.Goals as goal
use Rattle.table.specs.Tables.{nth_rule}

pub returns : goal.returns
returns c = λ present.
    only_told (row_of c.args.row.now) (nth_rule c.args.rules.now.table.now c.args.i) c.heads_in.result c.heads_in.ensures c.args.statement c.eq.result c.only.result c.eq.ensures c.only.ensures (in_row c.args.row.now c.args.statement present)
