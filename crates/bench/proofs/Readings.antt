-- What the values of the kinds come to.
use Rattle.std.proofs.Common.{◌≡◌, ℕ, ◌+◌, ◌%◌, ◌<◌, true, false, eqb, List, [], ◌∷◌, ◌++◌, length, ℤ, pos, ◌-ℤ◌, Some, Option, sym, refl, ap, ◌∙◌, subst, ap₂, inl, arith, length-append}
use Rattle.family.proofs.Extremes.{ExtremesOf, greatest_of, least_of, ordered, some_extremes, wider}
use Rattle.family.proofs.Picking.{picked_all, picked_among, picked_none, picked_one}
use Rattle.family.proofs.Readings.{at_all, at_sure, between, numbers_read}
use Rattle.family.specs.Bags.{Picked, Reached}
use Rattle.family.specs.Readings.{Reads, Within, nothing_or, only_numbers}
use Rattle.family.specs.Spans.{Spans, joined}
use Rattle.family.specs.declared.reading.Span.{Span}
use Rattle.semantics.proofs.Families.{none_some, same_some}
use Rattle.semantics.specs.Families.{bench, less}
use Rattle.std.proofs.lemmas.Int.{ints}
use Rattle.std.proofs.lemmas.Bool.{eqb-false, eqb-true}

abbrev pub width : Span → ℤ
width s = s.greatest -ℤ s.least

spread_of : (v : List ℤ) (m : Span) → ExtremesOf v m → bench 0 v ≡ Some (width m)
spread_of v m h = ap₂ less (greatest_of v m h) (least_of v m h)

-- some weights are sure
pub spread_reads : (s o : List ℤ) (a : Span) (t : Option Span) → ExtremesOf s a → Spans t o → Reads (bench 0) s o (only_numbers (record { least = width a; greatest = width (joined a t) }))
spread_reads s o a t h k =
    numbers_read (bench 0) s o _ (at_sure s o a t h k (bench 0) width spread_of) (at_all s o a t h k (bench 0) width spread_of)
    (λ u p. let (m, e, b) = between s o a t h k u p in (width m, spread_of (s ++ u) m e, (omega (arith, ints, b), omega (arith, ints, b))))

-- none is
picked_spread : (o : List ℤ) (m : Span) → ExtremesOf o m → (u : List ℤ) (z : ℤ) → Picked u o → bench 0 u ≡ Some z → Within (record { least = pos 0; greatest = width m }) z
picked_spread o m h [] z p e = absurd (none_some e)
picked_spread o m h (w ∷ ws) z p e =
    let (n, k) = some_extremes (w ∷ ws) w (inl refl) in
    let x = wider (w ∷ ws) o n m (λ y. picked_among (w ∷ ws) o y p) k h in
    let y = ordered (w ∷ ws) n k in
    let f = same_some (sym (spread_of (w ∷ ws) n k) ∙ e) in
    (omega (arith, ints, f, x, y), omega (arith, ints, f, x, y))

pub open_spread_reads : (o : List ℤ) (m : Span) → ExtremesOf o m → Reads (bench 0) [] o (nothing_or (Some (record { least = pos 0; greatest = width m })))
open_spread_reads o m h = record {
  nothing = (λ _. ([], picked_none o, refl), λ _. refl);
  numbers = record {
    least = (m.least ∷ [], picked_one o m.least h.least, ap Some (omega (arith, ints)));
    greatest = (o, picked_all o, spread_of o m h);
    all = λ z (u, p, e). picked_spread o m h u z p e;
  };
}

-- whether a bag is odd, from its two parts
odd_of : (s u : List ℤ) (n : ℕ) → (length s + length u) % 2 ≡ n → bench 1 (s ++ u) ≡ Some (pos n)
odd_of s u n e = ap (λ m. Some (pos (m % 2))) (length-append s u) ∙ ap (λ m. Some (pos m)) e

pub odd_reads : (s o : List ℤ) (r : Span) → (0 < length o → (r.least ≡ pos 0) × (r.greatest ≡ pos 1)) → (length o ≡ 0 → (r.least ≡ pos (length s % 2)) × (r.greatest ≡ pos (length s % 2))) → Reads (bench 1) s o (only_numbers r)
odd_reads s [] r some none =
    let (l, g) = none refl in
    numbers_read (bench 1) s [] r ([], refl, alone r.least l) ([], refl, alone r.greatest g)
    (λ u p. (pos (length s % 2), subst (λ v. bench 1 (s ++ v) ≡ Some (pos (length s % 2))) (sym p) (odd_of s [] _ (omega arith)), (omega (arith, ints), omega (arith, ints)))) where
      alone : (z : ℤ) → z ≡ pos (length s % 2) → bench 1 (s ++ []) ≡ Some z
      alone z e = odd_of s [] _ (omega arith) ∙ ap Some (sym e)
odd_reads s (w ∷ ws) r some none =
    let (l, g) = some (omega arith) in
    numbers_read (bench 1) s (w ∷ ws) r (reached 0 r.least (omega arith) l) (reached 1 r.greatest (omega arith) g)
    (λ u p. (pos ((length s + length u) % 2), odd_of s u _ refl, (omega (arith, ints), omega (arith, ints)))) where
      reached : (n : ℕ) (z : ℤ) → n < 2 → z ≡ pos n → Reached (bench 1) s (w ∷ ws) (Some z)
      reached n z b e = elim (eqb (length s % 2) n) as (λ b. eqb (length s % 2) n ≡ b → Reached (bench 1) s (w ∷ ws) (Some z)) [
        | true ↦ λ f. ([], picked_none (w ∷ ws), odd_of s [] n (omega (arith, eqb-true _ _ f)) ∙ ap Some (sym e))
        | false ↦ λ f. (w ∷ [], picked_one (w ∷ ws) w (inl refl), odd_of s (w ∷ []) n (omega (arith, eqb-false _ _ f)) ∙ ap Some (sym e))
      ] refl
