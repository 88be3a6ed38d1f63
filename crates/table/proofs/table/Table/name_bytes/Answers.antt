use Rattle.layout.specs.declared.area.Area.TheVariants.{Statements}
use Rattle.std.proofs.Common.{◌≡◌, ◌∙◌, ap, [], slice_index_or}
use Rattle.table.proofs.Places.{name_there, past_names, read_there}
use Rattle.table.proofs.table.Table.name_bytes.Goals as goal
use Rattle.table.specs.Tables.{contents_of}
use Rattle.table.specs.View.{name_read}

pub returns : goal.returns
returns c =
    let i = c.from.result in
    let held = contents_of c.args.self.now in
    rw (← c.from.ensures)
    (read_there Statements c.record.result name_read _ (λ r. r ≡ slice_index_or held.names i []) c.record.ensures c.map_or.ensures
    (λ past e. ap (λ name. name.now) e ∙ past_names _ i past)
    (λ ok l. name_there _ ok i l))
