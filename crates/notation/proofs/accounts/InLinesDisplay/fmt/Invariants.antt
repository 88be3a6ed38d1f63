use Rattle.notation.proofs.accounts.InLinesDisplay.fmt.Given as goal
use Rattle.notation.specs.Accounts.{in_lines}
use Rattle.std.specs.Fmt.{HasWritten, IsPlainFormatter}
use Rattle.table.specs.Tables.{contents_of}

abbrev pub invariant-loop-statement : goal.invariant-loop-statement
invariant-loop-statement g l =
    IsPlainFormatter l.initial.f → HasWritten g.W.Write.write_str_gives l.initial.f (in_lines (contents_of l.self.table).names l.self.marks.now l.statement) l.f
