use Rattle.daybook.proofs.telling.AccountLinesDisplay.fmt.Given as goal
use Rattle.daybook.specs.Telling.{account_lines_to}
use Rattle.std.specs.Fmt.{HasWritten, IsPlainFormatter}
use Rattle.table.specs.Tables.{contents_of}

abbrev pub invariant-loop-statement : goal.invariant-loop-statement
invariant-loop-statement g l =
    IsPlainFormatter l.initial.f → HasWritten g.W.Write.write_str_gives l.initial.f (account_lines_to (contents_of l.account.table).names l.account.bytes.now l.statement) l.f
