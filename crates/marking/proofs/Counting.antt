-- The number of statements that are in, counted from the last on, and of those that are open: never more under more marks.
use Rattle.std.proofs.Common.{◌≡◌, zero, suc, ◌+◌, ◌≤◌, Bool, true, false, List, [], ◌∷◌, cond, count_by, length, refl, zero-add, ap, ◌∙◌, arith}
use Rattle.marking.specs.Marks.{how_open, open_in}
use Rattle.semantics.specs.FullMarkings.{is_in, row_of}
use Rattle.semantics.specs.Markings.{Below, marked}
use Rattle.semantics.specs.Rows.{how_many}
use Rattle.semantics.specs.declared.Mark.{Mark}
use Rattle.semantics.specs.declared.Mark.TheVariants.{Open, In, Out}
use Rattle.std.proofs.lemmas.List.Recursion.{is_count_by}

-- those that are in
pub in_counts : (m : List Mark) → how_many (row_of m) ≡ count_by is_in m
in_counts = is_count_by (λ m. how_many (row_of m)) is_in refl one_more
  where
    one_more : (v : Mark) (m : List Mark) → how_many (row_of (v ∷ m)) ≡ cond (is_in v) (1 + how_many (row_of m)) (how_many (row_of m))
    one_more Open m = zero-add _
    one_more In m = refl
    one_more Out m = zero-add _

one_at_most : (v : Mark) → open_in v ≤ 1
one_at_most Open = omega arith
one_at_most In = omega arith
one_at_most Out = omega arith

-- under more marks
fewer_one : (v w : Mark) → ((x : Bool) → v ≡ marked x → w ≡ marked x) → open_in w ≤ open_in v
fewer_one Open w b = one_at_most w
fewer_one In w b = let e : open_in w ≡ 0 = ap open_in (b true refl) in omega arith
fewer_one Out w b = let e : open_in w ≡ 0 = ap open_in (b false refl) in omega arith

same_one : (v w : Mark) → ((x : Bool) → v ≡ marked x → w ≡ marked x) → open_in w ≡ open_in v → w ≡ v
same_one Open Open b e = refl
same_one Open In b e = absurd (omega arith)
same_one Open Out b e = absurd (omega arith)
same_one In w b e = b true refl
same_one Out w b e = b false refl

pub below_fewer : (m n : List Mark) → length n ≡ length m → Below m n → how_open n ≤ how_open m
below_fewer [] [] l b = omega arith
below_fewer [] (w ∷ n) l b = absurd (omega arith)
below_fewer (v ∷ m) [] l b = absurd (omega arith)
below_fewer (v ∷ m) (w ∷ n) l b = omega (arith, fewer_one v w (b zero), below_fewer m n (omega arith) (λ q. b (suc q)))

pub below_same : (m n : List Mark) → length n ≡ length m → Below m n → how_open n ≡ how_open m → n ≡ m
below_same [] [] l b e = refl
below_same [] (w ∷ n) l b e = absurd (omega arith)
below_same (v ∷ m) [] l b e = absurd (omega arith)
below_same (v ∷ m) (w ∷ n) l b e =
    let f : how_open n ≤ how_open m = below_fewer m n (omega arith) (λ q. b (suc q)) in
    let g : open_in w ≤ open_in v = fewer_one v w (b zero) in
    ap (λ u. u ∷ n) (same_one v w (b zero) (omega arith)) ∙ ap (λ k. v ∷ k) (below_same m n (omega arith) (λ q. b (suc q)) (omega arith))
