-- What the lines so far say.
use Rattle.std.proofs.Common.{◌≡◌, ◌+◌, map}
use Rattle.daybook.proofs.days.Day.read.Given as goal
use Rattle.daybook.specs.Days.{entry_view, lines_added, unmade_view, visits_added}
use Rattle.daybook.specs.Requests.{request_read}
use Rattle.std.specs.List.{flat_map}
use Rattle.table.specs.Tables.{contents_of}

abbrev pub invariant-loop-index : goal.invariant-loop-index
invariant-loop-index l = record {
  lines : l.day.lines.items ≡ flat_map (λ p. lines_added (p.0 + 1) (request_read (contents_of l.table).names p.1.now)) l.yielded;
  entries : map entry_view l.day.entries.items ≡ flat_map (λ p. map (unmade_view (contents_of l.table).names) (visits_added (request_read (contents_of l.table).names p.1.now))) l.yielded;
}
