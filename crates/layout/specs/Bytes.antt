-- Numbers in bytes, the lowest byte first.
use Rattle.std.specs.Prelude.{ℕ, ◌+◌, ◌*◌, List, ℤ, slice_index}
use Rattle.std.specs.Int.{cast_signed, w32}

abbrev pub byte_at : List ℕ → ℕ → ℕ
byte_at b p = slice_index b p

-- two bytes
abbrev pub word_at : List ℕ → ℕ → ℕ
word_at b p = slice_index b p + slice_index b (p + 1) * 256

-- four bytes, in two's complement
abbrev pub whole_at : List ℕ → ℕ → ℤ
whole_at b p = cast_signed w32 (slice_index b p + slice_index b (p + 1) * 256 + slice_index b (p + 2) * 65536 + slice_index b (p + 3) * 16777216)
