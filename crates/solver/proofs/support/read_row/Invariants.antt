use Rattle.std.proofs.Common.{◌≡◌, ◌<◌, ◌==◌, length, slice_index, ℕ}
use Rattle.semantics.specs.Markings.{at, marked}
use Rattle.solver.proofs.support.read_row.Given as goal
use Rattle.table.specs.Tables.{program_of}

-- the statements before this one are marked
abbrev pub invariant-loop-statement : goal.invariant-loop-statement
invariant-loop-statement l = record {
  long : length l.row ≡ (program_of l.table).statements;
  done : (k : ℕ) → k < l.statement → at l.row k ≡ marked (slice_index l.bytes k == 1);
}
