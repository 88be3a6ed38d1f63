-- The extremes of bags.
use Rattle.family.specs.Readings.{Extremes}
use Rattle.family.specs.Spans.{Small, SmallIfAny, Spans, alone, joined}
use Rattle.family.specs.declared.reading.Span.{Span}
use Rattle.semantics.proofs.Families.{best_among, best_before, best_is, greatest_best, least_best}
use Rattle.semantics.proofs.Lists.{among_either, among_left, among_right}
use Rattle.semantics.specs.Families.{Weight, greater, greatest, least, lesser}
use Rattle.semantics.specs.Lists.{Among}
use Rattle.std.proofs.lemmas.List.{append-nil}
use Rattle.std.proofs.lemmas.Int.{clamps, ints}
use Rattle.std.proofs.Common.{◌≡◌, Bool, true, false, cond, List, [], ◌∷◌, ◌++◌, ℤ, ◌≤ℤ◌, Some, None, Option, sym, refl, subst, inl, inr, ⊎_elim, arith}
use lib.Signed.{lt_z}

-- these are the extremes of the bag
abbrev pub ExtremesOf : List ℤ → Span → Type 0
ExtremesOf v = Extremes (λ z. Among z v)

pub least_of : (v : List ℤ) (s : Span) → ExtremesOf v s → least v ≡ Some s.least
least_of v s h = best_is least_best v s.least h.least (λ x m. (h.all x m).0)

pub greatest_of : (v : List ℤ) (s : Span) → ExtremesOf v s → greatest v ≡ Some s.greatest
greatest_of v s h = best_is greatest_best v s.greatest h.greatest (λ x m. (h.all x m).1)

-- a bag with a weight in it has extremes
pub some_extremes : (v : List ℤ) (x : ℤ) → Among x v → (s : Span) × ExtremesOf v s
some_extremes [] x m = absurd m
some_extremes (w ∷ ws) x m = (
  record { least = lesser w (least ws); greatest = greater w (greatest ws) },
  record {
    least = best_among least_best (w ∷ ws) _ refl;
    greatest = best_among greatest_best (w ∷ ws) _ refl;
    all = λ z i. (best_before least_best (w ∷ ws) _ z refl i, best_before greatest_best (w ∷ ws) _ z refl i);
  },
)

-- the extremes of a bag lie within those of a bag that has all its weights
pub wider : (v w : List ℤ) (s t : Span) → ((x : ℤ) → Among x v → Among x w) → ExtremesOf v s → ExtremesOf w t → (t.least ≤ℤ s.least) × (s.greatest ≤ℤ t.greatest)
wider v w s t sub h k = ((k.all _ (sub _ h.least)).0, (k.all _ (sub _ h.greatest)).1)

pub ordered : (v : List ℤ) (s : Span) → ExtremesOf v s → s.least ≤ℤ s.greatest
ordered v s h = (h.all _ h.greatest).0

of_one : (w : ℤ) → ExtremesOf (w ∷ []) (alone w)
of_one w = record { least = inl refl; greatest = inl refl; all = λ z m. elim m [ inl e ↦ (omega (arith, ints), omega (arith, ints)) | inr i ↦ absurd i ] }

-- what holds of two numbers holds of either of them
cond_holds : (P : ℤ → Type 0) (b : Bool) (x y : ℤ) → P x → P y → P (cond b x y)
cond_holds P true x y p q = p
cond_holds P false x y p q = q

pub joined_of : (v w : List ℤ) (s : Span) (t : Option Span) → ExtremesOf v s → Spans t w → ExtremesOf (v ++ w) (joined s t)
joined_of v w s None h e = subst (λ u. ExtremesOf (v ++ u) s) (sym e) (subst (λ u. ExtremesOf u s) (sym (append-nil v)) h)
joined_of v w s (Some t) h k = record {
  least = cond_holds In (lt_z t.least s.least) _ _ (among_right v w _ k.least) (among_left v w _ h.least);
  greatest = cond_holds In (lt_z t.greatest s.greatest) _ _ (among_left v w _ h.greatest) (among_right v w _ k.greatest);
  all = λ z m. ⊎_elim
      (λ i. let b = h.all z i in (omega (arith, ints, clamps, b.0), omega (arith, ints, clamps, b.1)))
      (λ i. let b = k.all z i in (omega (arith, ints, clamps, b.0), omega (arith, ints, clamps, b.1)))
      (among_either v w z m);
} where
  In : ℤ → Type 0
  In z = Among z (v ++ w)

pub widened_of : (v : List ℤ) (w : ℤ) (t : Option Span) → Spans t v → ExtremesOf (w ∷ v) (joined (alone w) t)
widened_of v w t h = joined_of (w ∷ []) v _ t (of_one w) h

pub joined_small : (s : Span) (t : Option Span) → Small s → SmallIfAny t → Small (joined s t)
joined_small s None h k = h
joined_small s (Some t) h k =
    let n = k t refl in
    (cond_holds Weight (lt_z t.least s.least) _ _ n.0 h.0, cond_holds Weight (lt_z t.greatest s.greatest) _ _ h.1 n.1)
