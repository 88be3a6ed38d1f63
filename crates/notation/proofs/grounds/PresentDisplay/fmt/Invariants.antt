use Rattle.std.proofs.Common.{◌≡◌, ◌-◌, ◌≤◌, codes}
use Rattle.notation.proofs.grounds.PresentDisplay.fmt.Given as goal
use Rattle.notation.specs.Pieces.{parting, present_pieces}
use Rattle.notation.specs.Text.{joined}
use Rattle.std.specs.Fmt.{HasWritten, IsPlainFormatter}
use Rattle.table.specs.Tables.{contents_of}
use denote.Shadow.{shadow}
use denote.Text.{Utf8}

-- the members before this place that are in are written, and the separator is what parts the next one from them
abbrev pub invariant-loop-place : goal.invariant-loop-place
invariant-loop-place g l =
    shadow (Utf8 l.separator)
    × (IsPlainFormatter l.initial.f → HasWritten g.W.Write.write_str_gives l.initial.f (joined (codes ", ") (present_pieces (contents_of l.self.table) l.self.marks.now l.self.run.first l.place)) l.f)
    × (l.separator ≡ parting (present_pieces (contents_of l.self.table) l.self.marks.now l.self.run.first l.place))
    × (l.place - l.self.run.first ≤ l.self.run.end - l.self.run.first)
