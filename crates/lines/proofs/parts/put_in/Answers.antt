use Rattle.std.proofs.Common.{append_assoc, arith, codes, length-append}
use Rattle.lines.proofs.Following.{same_text, then_text}
use Rattle.lines.proofs.parts.put_in.Goals as goal
use Rattle.notation.specs.Shown.{newline}

pub returns : goal.returns
returns c =
    let room = length-append c.args.name.now newline in
    let named = then_text _ (omega (arith, room)) c.put-at.ensures (rw c.as_bytes.ensures.value at c.put.ensures) in
    same_text (append_assoc (codes "in ") c.args.name.now newline) (then_text _ (omega (arith, room)) named c.put-2.ensures)
