use Rattle.notation.proofs.marks.MarksDisplay.fmt.Given as goal
use Rattle.notation.specs.Marks.{lines}
use Rattle.std.specs.Fmt.{HasWritten, IsPlainFormatter}
use Rattle.table.specs.Tables.{contents_of}

abbrev pub invariant-loop-statement : goal.invariant-loop-statement
invariant-loop-statement g l =
    IsPlainFormatter l.initial.f → HasWritten g.W.Write.write_str_gives l.initial.f (lines (contents_of l.self.table).names l.self.marking.now l.statement) l.f
