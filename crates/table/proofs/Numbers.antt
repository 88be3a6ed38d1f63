-- Numbers in bytes: how large they are, and that they say what the bytes are.
use Rattle.std.proofs.Common.{◌≡◌, ℕ, ◌+◌, ◌*◌, ◌<◌, List, get_or, pos, negsuc, ◌≤ℤ◌, sym, ap, ◌∙◌, arith, w32, to_z, of_z}
use Rattle.layout.specs.Bytes.{byte_at, whole_at, word_at}
use Rattle.std.proofs.lemmas.Int.{ints, of_z-to_z}
use Rattle.table.specs.Limits.{Bytes}

-- four bytes, the lowest first
abbrev four_bytes : List ℕ → ℕ → ℕ
four_bytes b p = get_or b p 0 + get_or b (p + 1) 0 * 256 + get_or b (p + 2) 0 * 65536 + get_or b (p + 3) 0 * 16777216

four_bytes_small : (b : List ℕ) → Bytes b → (p : ℕ) → four_bytes b p < 4294967296
four_bytes_small b bytes p = omega (arith, bytes p, bytes (p + 1), bytes (p + 2), bytes (p + 3))

whole_range : (n : ℕ) → n < 4294967296 → (negsuc 2147483647 ≤ℤ to_z w32 n) × (to_z w32 n ≤ℤ pos 2147483647)
whole_range n h = (omega (arith, ints), omega (arith, ints))

pub whole_fits : (b : List ℕ) → Bytes b → (p : ℕ) → (negsuc 2147483647 ≤ℤ whole_at b p) × (whole_at b p ≤ℤ pos 2147483647)
whole_fits b bytes p = whole_range (four_bytes b p) (four_bytes_small b bytes p)

same_digits : (low high low' high' : ℕ) → low < 256 → low' < 256 → low + high * 256 ≡ low' + high' * 256 → (low ≡ low') × (high ≡ high')
same_digits low high low' high' l l' e = (omega arith, omega arith)

-- equal numbers at place p of b and at place q of o
module _ (b o : List ℕ) (bytes : Bytes b) (bytes' : Bytes o) (p q : ℕ) where
  pub same_word : word_at b p ≡ word_at o q → (byte_at b p ≡ byte_at o q) × (byte_at b (p + 1) ≡ byte_at o (q + 1))
  same_word e = same_digits _ _ _ _ (bytes p) (bytes' q) e

  same_four_bytes : whole_at b p ≡ whole_at o q → four_bytes b p ≡ four_bytes o q
  same_four_bytes e =
      sym (of_z-to_z w32 (four_bytes b p) (four_bytes_small b bytes p)) ∙ ap (of_z w32) e ∙ of_z-to_z w32 (four_bytes o q) (four_bytes_small o bytes' q)

  pub same_whole : whole_at b p ≡ whole_at o q → (byte_at b p ≡ byte_at o q) × (byte_at b (p + 1) ≡ byte_at o (q + 1)) × (byte_at b (p + 2) ≡ byte_at o (q + 2)) × (byte_at b (p + 3) ≡ byte_at o (q + 3))
  same_whole e =
      let same : byte_at b p + (byte_at b (p + 1) + (byte_at b (p + 2) + byte_at b (p + 3) * 256) * 256) * 256
      ≡ byte_at o q + (byte_at o (q + 1) + (byte_at o (q + 2) + byte_at o (q + 3) * 256) * 256) * 256
      = omega (arith, same_four_bytes e) in
      let first = same_digits _ _ _ _ (bytes p) (bytes' q) same in
      let second = same_digits _ _ _ _ (bytes (p + 1)) (bytes' (q + 1)) first.1 in
      let third = same_digits _ _ _ _ (bytes (p + 2)) (bytes' (q + 2)) second.1 in
      (first.0, second.0, third.0, third.1)
