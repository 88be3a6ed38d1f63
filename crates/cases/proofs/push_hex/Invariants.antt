-- The bytes so far, before those of the digits that are left, are those of all digits.
use Rattle.std.proofs.Common.{◌++◌, ◌≡◌}
use Rattle.std.specs.Slice.Iter.{chunks_exact_rest, chunks_exact_size}
use Rattle.cases.specs.Hex.{hex_bytes}
use Rattle.cases.proofs.push_hex.Given as goal

abbrev pub invariant-loop-pair : goal.invariant-loop-pair
invariant-loop-pair l = record {
  size : chunks_exact_size l.pair-iterator ≡ 2;
  bytes : l.bytes.items ++ hex_bytes (chunks_exact_rest l.pair-iterator) ≡ l.initial.bytes.items ++ hex_bytes l.digits;
}
