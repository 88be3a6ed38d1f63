use Rattle.daybook.proofs.StatementLines.{mark_lines_more}
use Rattle.daybook.proofs.telling.MarkLinesDisplay.fmt.Goals as goal
use Rattle.notation.proofs.Written.{then_text}
use Rattle.std.proofs.Common.{refl}
use Rattle.table.specs.Tables.{contents_of}
use Rattle.std.proofs.Output.{has_written_of_eq}

pub loop-statement-preserved : goal.loop-statement-preserved
loop-statement-preserved g c = λ plain.
    has_written_of_eq _ _ _ _ _ (mark_lines_more (contents_of c.args.self.now.0.table).names c.args.self.now.0.bytes.now c.loop-statement.statement c.mark-mark.ensures c.name-name.ensures)
    (then_text refl (c.loop-statement.invariant plain) c.in_ok-writeln.ensures.writes)
