use Rattle.lines.proofs.Following.{in_front, same_text, then_text}
use Rattle.lines.proofs.Room.{head_short, line_fits}
use Rattle.lines.proofs.Steps.{all_lines, no_lines, one_more_line}
use Rattle.lines.proofs.accounts.write_found.Goals as goal
use Rattle.std.proofs.Common.{arith}
use Rattle.std.proofs.lemmas.List.{length-take}

pub put_head-at-requires : goal.put_head-at-requires
put_head-at-requires c =
    simp length-take (omega (arith, head_short c.args.table.now.bytes.now c.args.marks.now _ c.in_count.ensures (omega arith)))

pub loop-statement-init : goal.loop-statement-init
loop-statement-init c =
    let room = head_short c.args.table.now.bytes.now c.args.marks.now _ c.in_count.ensures (omega arith) in
    same_text (no_lines _ _ _ c.in_count.ensures) (in_front 4620 (omega (arith, room)) c.put_head-at.ensures)

pub loop-statement-preserved : goal.loop-statement-preserved
loop-statement-preserved c =
    let fits = line_fits c.args.table.now.bytes.now c.args.marks.now c.loop-statement.statement _ _ (omega arith) (omega arith) c.mark-mark.ensures c.name-name.ensures in
    same_text (one_more_line _ _ _ _ _ c.mark-mark.ensures c.name-name.ensures) (then_text _ (omega arith) c.loop-statement.invariant c.put_line-at.ensures)

pub returns : goal.returns
returns c = same_text (all_lines _ _ _ (omega arith)) c.loop-statement.invariant
