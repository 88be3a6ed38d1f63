use Rattle.daybook.proofs.standing.FurtherDisplay.fmt.Given as goal
use Rattle.daybook.specs.Standing.{further_text}
use Rattle.std.proofs.Common.{take}
use Rattle.std.specs.Fmt.{HasWritten, IsPlainFormatter}
use Rattle.table.specs.Tables.{contents_of}

abbrev pub invariant-loop-finding : goal.invariant-loop-finding
invariant-loop-finding g l =
    IsPlainFormatter l.initial.f → HasWritten g.W.Write.write_str_gives l.initial.f (further_text (contents_of l.table).names (take l.finding-index l.finding-items)) l.f
