use Rattle.std.proofs.Common.{◌-◌, ◌≤◌}
use Rattle.notation.proofs.grounds.TrueLinesDisplay.fmt.Given as goal
use Rattle.notation.specs.Pieces.{true_pieces}
use Rattle.std.specs.Fmt.{HasWritten, IsPlainFormatter}
use Rattle.table.specs.Tables.{contents_of}

abbrev pub invariant-loop-place : goal.invariant-loop-place
invariant-loop-place g l =
    (IsPlainFormatter l.initial.f → HasWritten g.W.Write.write_str_gives l.initial.f (true_pieces (contents_of l.self.table) l.self.marks.now l.self.run.first l.place) l.f)
    × (l.place - l.self.run.first ≤ l.self.run.end - l.self.run.first)
