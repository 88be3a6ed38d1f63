use Rattle.solver.proofs.Sets.{removable_made}
use Rattle.solver.proofs.minimality.removable.Goals as goal
use Rattle.std.proofs.Common.{◌∙◌}

pub returns : goal.returns
returns c =
    c.unwrap_or.ensures
    ∙ removable_made c.args.row.now c.statements-statements.result c.below.result c.present.result c.without-rest.result c.none.result c.statements-statements.ensures.value c.statements-statements.ensures.few c.below.ensures c.present.ensures c.without-rest.ensures c.none.ensures c.from_sets.result c.all_open.result c.from_sets.ensures.apart c.from_sets.ensures.meeting
