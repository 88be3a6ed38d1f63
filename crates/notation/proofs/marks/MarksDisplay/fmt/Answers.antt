use Rattle.std.proofs.Common.{refl}
use Rattle.std.proofs.Output.{has_written_of_eq}
use Rattle.notation.proofs.Lines.{lines_more}
use Rattle.notation.proofs.Written.{then_text}
use Rattle.notation.proofs.marks.MarksDisplay.fmt.Goals as goal

pub loop-statement-preserved : goal.loop-statement-preserved
loop-statement-preserved g c = λ plain.
    has_written_of_eq _ _ _ _ _ (lines_more _ _ c.loop-statement.statement c.mark-mark.ensures c.name-name.ensures)
    (then_text refl (c.loop-statement.invariant plain) c.in_ok-writeln.ensures.writes)
