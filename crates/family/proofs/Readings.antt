-- What makes a reading right.
use Rattle.family.proofs.Extremes.{ExtremesOf, joined_of, some_extremes, wider}
use Rattle.family.proofs.Picking.{picked_all, picked_among, picked_none, picked_one}
use Rattle.family.specs.Bags.{Picked, Reached}
use Rattle.family.specs.Readings.{Extremes, Reads, Within, nothing_or, only_numbers}
use Rattle.family.specs.Spans.{Spans, joined}
use Rattle.family.specs.declared.reading.Span.{Span}
use Rattle.semantics.proofs.Families.{Best, best_among, none_some, same_some}
use Rattle.semantics.proofs.Lists.{among_either, among_left, among_right}
use Rattle.semantics.specs.Lists.{Among}
use Rattle.std.proofs.lemmas.List.{append-nil}
use Rattle.std.proofs.lemmas.Bool.{false≢true}
use Rattle.std.proofs.Common.{◌≡◌, List, [], ◌∷◌, ◌++◌, ℤ, ◌≤ℤ◌, Some, None, Option, sym, refl, ap, ◌∙◌, subst, ⊎_elim, MatchOption}

-- no bag is worth a number
pub nothing_reads : (value : List ℤ → Option ℤ) (s o : List ℤ) → ((v : List ℤ) → value v ≡ None) → Reads value s o (nothing_or None)
nothing_reads value s o h = record {
  nothing = (λ _. ([], picked_none o, h (s ++ [])), λ _. refl);
  numbers = λ z r. none_some (sym (h (s ++ r.0)) ∙ r.2);
}

-- every bag is worth a number, one the least of them and one the greatest
pub numbers_read : (value : List ℤ → Option ℤ) (s o : List ℤ) (r : Span) → Reached value s o (Some r.least) → Reached value s o (Some r.greatest) → ((u : List ℤ) → Picked u o → (z : ℤ) × (value (s ++ u) ≡ Some z) × Within r z) → Reads value s o (only_numbers r)
numbers_read value s o r low high each = record {
  nothing = (λ e. absurd (false≢true e), λ (u, p, e). let n = each u p in absurd (none_some (sym e ∙ n.1)));
  numbers = record {
    least = low;
    greatest = high;
    all = λ z (u, p, e). let n = each u p in subst (Within r) (same_some (sym n.1 ∙ e)) n.2;
  };
}

-- with no sure weight, the best weight of a bag can be each open weight, or nothing
pub best_open_reads : {better : ℤ → Option ℤ → ℤ} {best : List ℤ → Option ℤ} {Before : ℤ → ℤ → Type 0} → Best better best Before → (o : List ℤ) (t : Option Span) → Spans t o → Reads best [] o (nothing_or t)
best_open_reads {better} {best} b o t h = record { nothing = (λ _. ([], picked_none o, b.none), λ _. refl); numbers = numbers t h } where
  one : (x : ℤ) → Among x o → Reached best [] o (Some x)
  one x m = (x ∷ [], picked_one o x m, b.next x [] ∙ ap Some (ap (better x) b.none ∙ b.alone x))

  numbers : (t : Option Span) → Spans t o → MatchOption t ((z : ℤ) → Reached best [] o (Some z) → ⊥) (Extremes (λ z. Reached best [] o (Some z)))
  numbers None e = λ z (u, p, f). subst (Among z) e (picked_among u o z p (best_among b u z f))
  numbers (Some t) h = record {
    least = one t.least h.least;
    greatest = one t.greatest h.greatest;
    all = λ z (u, p, f). h.all z (picked_among u o z p (best_among b u z f));
  }

-- The sure weights have extremes a, and the open ones t or none. A value that the extremes of a bag tell comes to its
-- least and its greatest with no open weight and with all of them.
module _ (s o : List ℤ) (a : Span) (t : Option Span) (h : ExtremesOf s a) (k : Spans t o) where
  -- the extremes with some open weights lie between
  pub between : (u : List ℤ) → Picked u o → (m : Span) × ExtremesOf (s ++ u) m × ((((joined a t).least ≤ℤ m.least) × (m.least ≤ℤ a.least)) × ((a.greatest ≤ℤ m.greatest) × (m.greatest ≤ℤ (joined a t).greatest)))
  between u p =
      let (m, e) = some_extremes (s ++ u) a.least (among_left s u _ h.least) in
      let x = wider s (s ++ u) a m (among_left s u) h e in
      let y = wider (s ++ u) (s ++ o) m (joined a t) (λ z i. ⊎_elim (among_left s o z) (λ j. among_right s o z (picked_among u o z p j)) (among_either s u z i)) e (joined_of s o a t h k) in
      (m, e, ((y.0, x.0), (x.1, y.1)))

  module _ (value : List ℤ → Option ℤ) (told : Span → ℤ) (tells : (v : List ℤ) (m : Span) → ExtremesOf v m → value v ≡ Some (told m)) where
    pub at_sure : Reached value s o (Some (told a))
    at_sure = ([], picked_none o, tells (s ++ []) a (subst (λ v. ExtremesOf v a) (sym (append-nil s)) h))

    pub at_all : Reached value s o (Some (told (joined a t)))
    at_all = (o, picked_all o, tells (s ++ o) (joined a t) (joined_of s o a t h k))
