-- Names are text, since the check accepts only visible ASCII signs in them.
use Rattle.std.proofs.Common.{◌≡◌, ℕ, ◌+◌, ◌<◌, ◌≤◌, Bool, true, false, cond, List, [], length, get_or, sym, refl, subst, add_assoc, ⊎_elim, arith}
use Rattle.format.specs.Check.{accepted}
use Rattle.format.specs.Statements.{name_at, name_length, name_start}
use Rattle.std.proofs.lemmas.Bool.{cases_lt}
use Rattle.std.proofs.lemmas.List.{get_or_past}
use Rattle.std.proofs.lemmas.List.FromFn.{get_or-map-range_with_len}
use Rattle.std.proofs.lemmas.Str.{IsUtf8-from_ascii}
use Rattle.std.proofs.lemmas.Str.Ascii.{IsAscii-from_reads, IsAscii-nil}
use Rattle.std.specs.Str.{IsAscii, IsUtf8}
use Rattle.table.proofs.Clean.{Clean, clean}
use Rattle.table.proofs.Held.{name_long, names_count}
use Rattle.table.proofs.Records.{letter_fits, name_inside}
use Rattle.table.proofs.Slices.{slice_at}
use Rattle.table.specs.Contents.{contents, held, names_held, nothing, slice}

part_ascii : (b : List ℕ) (first n : ℕ) → length (slice first n b) ≤ n → ((k : ℕ) → k < n → get_or b (first + k) 0 < 128) → IsAscii (slice first n b)
part_ascii b first n h low = IsAscii-from_reads _ n h (λ k m. omega (arith, slice_at first n b k 0 m, low k m))

name_ascii : (b : List ℕ) → Clean b → (i : ℕ) → i < length (names_held b) → IsAscii (name_at b i)
name_ascii b c i l =
    part_ascii b _ (name_length b i) (omega (arith, name_long b c i (omega (arith, names_count b)))) (λ k m.
    let fits = letter_fits b (name_start b i + k) (c.letter _ (omega (arith, name_inside b c i (omega (arith, names_count b))))) in
    subst (λ p. get_or b p 0 < 128) (sym (add_assoc _ (name_start b i) k)) (omega arith))

held_ascii : (b : List ℕ) → Clean b → (q : ℕ) → IsAscii (get_or (names_held b) q [])
unfolding names_held
held_ascii b c q =
    ⊎_elim
    (λ (l : q < length (names_held b)). subst IsAscii (sym (get_or-map-range_with_len (name_at b) 0 _ q q [] (omega (arith, names_count b)) (omega arith))) (name_ascii b c q l))
    (λ (l : length (names_held b) ≤ q). subst IsAscii (sym (get_or_past (names_held b) q [] l)) IsAscii-nil)
    (cases_lt q (length (names_held b)))

pub name_is_text : (b : List ℕ) (q : ℕ) → IsUtf8 (get_or (contents b).names q [])
unfolding contents
name_is_text b q = go (accepted b) refl
  where
    go : (ok : Bool) → accepted b ≡ ok → IsUtf8 (get_or (cond ok (held b) nothing).names q [])
    go true e = IsUtf8-from_ascii _ (held_ascii b (clean b e) q)
    go false e = IsUtf8-from_ascii _ IsAscii-nil
