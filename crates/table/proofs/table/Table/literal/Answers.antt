use Rattle.layout.specs.declared.area.Area.TheVariants.{Literals}
use Rattle.std.proofs.Common.{◌≡◌, ◌<◌, ◌∙◌, sym, arith, length, slice_index}
use Rattle.std.proofs.lemmas.List.{get_or_past}
use Rattle.layout.specs.Bytes.{byte_at}
use Rattle.table.proofs.Places.{literal_known, literal_there, past_literals, read_there}
use Rattle.table.proofs.table.Table.literal.Goals as goal
use Rattle.table.specs.Tables.{contents_of}

pub returns : goal.returns
returns c =
    let k = c.args.k in
    let held = contents_of c.args.self.now in
    record {
      value = read_there Literals c.record.result byte_at _ (λ r. r ≡ slice_index held.literals k) c.record.ensures c.map_or.ensures
          (λ past e. e ∙ sym (get_or_past _ k 0 (past_literals _ k past)))
          (λ ok l. literal_there _ ok k l);
      known = λ inside. read_there Literals c.record.result byte_at _ (λ r. r < length held.names) c.record.ensures c.map_or.ensures
          (λ past e. let none = past_literals _ k past in absurd (omega arith))
          (λ ok l. literal_known _ ok k l);
    }
