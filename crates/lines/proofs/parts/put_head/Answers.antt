use Rattle.std.proofs.Common.{append_assoc, arith, codes, decimal, length-append}
use Rattle.lines.proofs.Following.{same_text, then_text}
use Rattle.lines.proofs.parts.put_head.Goals as goal
use Rattle.notation.specs.Shown.{newline}

pub returns : goal.returns
returns c =
    let room = length-append (decimal c.args.count) newline in
    let counted = then_text _ (omega (arith, room)) c.put-at.ensures c.put_number.ensures in
    same_text (append_assoc (codes "account ") (decimal c.args.count) newline) (then_text _ (omega (arith, room)) counted c.put.ensures)
