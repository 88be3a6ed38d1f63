use Rattle.std.proofs.Common.{◌-◌, ◌≤◌}
use Rattle.notation.proofs.Joining.{row}
use Rattle.notation.proofs.pieces.JoinedDisplay.fmt.Given as goal
use Rattle.std.specs.Fmt.{HasWritten, IsPlainFormatter}

abbrev pub invariant-loop-place : goal.invariant-loop-place
invariant-loop-place g l =
    (IsPlainFormatter l.initial.f → HasWritten g.W.Write.write_str_gives l.initial.f (row l.self.separator.now (g.P.Pieces.text l.self.pieces) l.self.run.first l.place) l.f)
    × (l.place - l.self.run.first ≤ l.self.run.end - l.self.run.first)
