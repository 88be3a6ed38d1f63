use Rattle.layout.specs.declared.area.Area.TheVariants.{Aggregates}
use Rattle.table.proofs.Places.{read_there, shows_aggregate, shows_no_aggregate}
use Rattle.table.proofs.table.Table.aggregate.Goals as goal
use Rattle.table.specs.View.{ShowsAggregate, aggregate_read}

pub returns : goal.returns
returns c =
    read_there Aggregates c.record.result aggregate_read _ (ShowsAggregate _ _) c.record.ensures c.map_or.ensures
    (λ past e. rw e (shows_no_aggregate _ c.args.j past))
    (λ ok l. shows_aggregate _ ok c.args.j l)
