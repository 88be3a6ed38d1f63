use Rattle.lines.proofs.Digits.{length_more, more_digits, one_digit}
use Rattle.lines.proofs.Following.{same_text, then_text}
use Rattle.lines.proofs.parts.+put_number.Goals as goal
use Rattle.std.proofs.Common.{arith, sym}

pub returns-then-number-lt10 : goal.returns-then-number-lt10
returns-then-number-lt10 t c = same_text (sym (one_digit c.args.number (omega arith))) c.put.ensures

pub returns : goal.returns
returns t c =
    same_text (sym (more_digits c.args.number (omega arith) (omega arith))) (then_text _ (omega (arith, length_more c.args.number (omega arith) (omega arith))) c.put_number-at.ensures c.put-2.ensures)
