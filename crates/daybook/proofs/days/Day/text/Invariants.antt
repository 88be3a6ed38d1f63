-- The text so far, and then that of the lines and entries that are left, is that of the day.
use Rattle.std.proofs.Common.{None, ◌≡◌, ◌++◌, drop, string_bytes}
use Rattle.daybook.proofs.days.Day.text.Given as goal
use Rattle.daybook.specs.Days.{day_text}
use Rattle.daybook.specs.Rows.{found_seen}
use Rattle.std.specs.Slice.Iter.{iter_rest}

abbrev pub invariant-loop-line : goal.invariant-loop-line
invariant-loop-line g l =
    string_bytes l.text ++ day_text (g.F.Family.size l.family) (g.F.Family.value l.family) l.fn.table.bytes.now l.sheet.statements (found_seen l.found) (drop l.line-index l.line-items) (iter_rest l.entries)
    ≡ day_text (g.F.Family.size l.family) (g.F.Family.value l.family) l.fn.table.bytes.now l.sheet.statements None l.line-items l.self.entries.items
