use Rattle.layout.specs.declared.area.Area.TheVariants.{Members}
use Rattle.std.proofs.Common.{◌≡◌, ◌∙◌, sym, arith, length, slice_index_or}
use Rattle.std.proofs.lemmas.List.{get_or_past}
use Rattle.table.proofs.Places.{member_known, member_there, past_members, read_there}
use Rattle.table.proofs.table.Table.member.Goals as goal
use Rattle.table.specs.Limits.{MemberLimits}
use Rattle.table.specs.Tables.{contents_of}
use Rattle.table.specs.View.{member_read, no_member}

pub returns : goal.returns
returns c =
    let k = c.args.k in
    let held = contents_of c.args.self.now in
    record {
      value = read_there Members c.record.result member_read _ (λ r. r ≡ slice_index_or held.members k no_member) c.record.ensures c.map_or.ensures
          (λ past e. e ∙ sym (get_or_past _ k no_member (past_members _ k past)))
          (λ ok l. member_there _ ok k l);
      limits = λ inside. read_there Members c.record.result member_read _ (MemberLimits (length held.names)) c.record.ensures c.map_or.ensures
          (λ past e. let none = past_members _ k past in absurd (omega arith))
          (λ ok l. member_known _ ok k l);
    }
