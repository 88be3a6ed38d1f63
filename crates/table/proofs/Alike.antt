-- Bytes of two lists that are the same, put together from numbers to records and from records to the whole.
use Rattle.std.proofs.Common.{◌≡◌, ℕ, zero, suc, ◌+◌, ◌-◌, ◌*◌, ◌<◌, List, length, get_or, sym, ap, ◌∙◌, inl, inr, mul-zero, zero-add, mul-suc, arith}
use Rattle.layout.specs.Bytes.{byte_at, whole_at, word_at}
use Rattle.std.proofs.lemmas.List.{ext_get_or}
use Rattle.std.proofs.lemmas.Bool.{cases_lt}
use Rattle.table.proofs.Numbers.{same_whole, same_word}
use Rattle.table.proofs.Slices.{slice_at}
use Rattle.table.specs.Contents.{slice}
use Rattle.table.specs.Limits.{Bytes}

-- the n bytes of b from place p on are those of o from place q on
pub record Alike (b o : List ℕ) (p q n : ℕ) : Type 0 where
  pub at : (k : ℕ) → k < n → byte_at b (p + k) ≡ byte_at o (q + k)

module _ {b o : List ℕ} where
  pub alike_moved : {p q p' q' n : ℕ} → p ≡ p' → q ≡ q' → Alike b o p q n → Alike b o p' q' n
  alike_moved e e' a = rw (← e, ← e') a

  infixl 40 ◌then◌
  pub ◌then◌ : {p q m n : ℕ} → Alike b o p q m → Alike b o (p + m) (q + m) n → Alike b o p q (m + n)
  ◌then◌ {p} {q} {m} {n} x y = record {
    at = λ k l. elim (cases_lt k m) [
      | inl h ↦ x.at k h
      | inr h ↦
          let e : p + k ≡ p + m + (k - m) = omega arith in
          let e' : q + m + (k - m) ≡ q + k = omega arith in
          ap (byte_at b) e ∙ y.at (k - m) (omega arith) ∙ ap (byte_at o) e'
    ];
  }

  pub same_byte : {p q : ℕ} → byte_at b p ≡ byte_at o q → Alike b o p q 1
  same_byte {p} {q} e = record {
    at = λ k l.
        let f : p + k ≡ p = omega arith in
        let g : q ≡ q + k = omega arith in
        ap (byte_at b) f ∙ e ∙ ap (byte_at o) g;
  }

  pub both_zero : {p q : ℕ} → byte_at b p ≡ 0 → byte_at o q ≡ 0 → Alike b o p q 1
  both_zero e f = same_byte (e ∙ sym f)

  -- a part that both have
  pub alike_slices : (p q n : ℕ) → slice p n b ≡ slice q n o → Alike b o p q n
  alike_slices p q n e = record { at = λ k l. sym (slice_at p n b k 0 l) ∙ ap (λ xs. get_or xs k 0) e ∙ slice_at q n o k 0 l }

  -- n records of one size
  pub alike_records : (size p q n : ℕ) → ((i : ℕ) → i < n → Alike b o (p + size * i) (q + size * i) size) → Alike b o p q (size * n)
  alike_records size p q zero each = record { at = λ k l. absurd (omega (arith, mul-zero size)) }
  alike_records size p q (suc n) each = rw (mul-suc size n) (alike_records size p q n (λ i l. each i (omega arith)) then each n (omega arith))

  pub alike_whole : length b ≡ length o → Alike b o 0 0 (length b) → b ≡ o
  alike_whole e a = ext_get_or 0 b o e (λ i l. simp zero-add at (a.at i l))

  module _ (bytes : Bytes b) (bytes' : Bytes o) where
    pub alike_word : {p q : ℕ} → word_at b p ≡ word_at o q → Alike b o p q 2
    alike_word {p} {q} e = let s = same_word b o bytes bytes' p q e in same_byte s.0 then same_byte s.1

    pub alike_number : {p q : ℕ} → whole_at b p ≡ whole_at o q → Alike b o p q 4
    alike_number {p} {q} e =
        let s = same_whole b o bytes bytes' p q e in
        same_byte s.0 then same_byte s.1 then same_byte s.2 then same_byte s.3
