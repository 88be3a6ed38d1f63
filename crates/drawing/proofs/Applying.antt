-- Marking what is wanted, once and again.
use Rattle.std.proofs.Common.{◌≡◌, ℕ, ◌+◌, ◌<◌, ◌≤◌, Bool, true, ◌⊎◌, List, length, get_or, set, is_err, Some, None, Ok, Err, Option, Result, sym, ap, ◌∙◌, subst, inl, inr, ⊎_elim, arith}
use Rattle.drawing.proofs.Deriving.{derived_between, derived_mark, derived_on, derived_same, failed_against, failed_before, wanted_stays}
use Rattle.drawing.specs.Applying.{Applied, EachOther, Forced, IsMarked, Other}
use Rattle.drawing.specs.Deriving.{Derived, Failed, Wanted}
use Rattle.drawing.specs.declared.forcing.Clash.{Clash}
use Rattle.semantics.specs.Families.{Values}
use Rattle.semantics.specs.Markings.{at, marked}
use Rattle.semantics.specs.Programs.{Program}
use Rattle.semantics.specs.declared.Mark.{Mark}
use Rattle.semantics.specs.declared.Mark.TheVariants.{Open}
use Rattle.std.proofs.lemmas.List.{get_or-set_same, set_past}
use Rattle.std.proofs.lemmas.Bool.{cases_lt, false≢true}

pub left_out : (except : Option ℕ) (q : ℕ) → except ≡ Some q → Other except q → ⊥
left_out None q e o = cc
left_out (Some p) q e o = o (cc)

pub not_left_out : (except : Option ℕ) (q : ℕ) → (except ≡ Some q → ⊥) → Other except q
not_left_out None q n = tt
not_left_out (Some p) q n = λ e. n (ap Some (sym e))

module _ (value : Values) (p : Program) where
  -- nothing is marked, and so much is known
  pub applied_none : (m : List Mark) (Done : Type 0) → Done → Applied value p m m (Ok tt) Done
  applied_none m Done d = (derived_same value p m, λ e. d)

  -- after marks from m to n, marks from n to k
  pub applied_on : (m n k : List Mark) (First : Type 0) (Second : List Mark → Type 0) (r : Result (Unit {0}) Clash) → Derived value p m n → (n ≡ m → First) → Applied value p n k r (Second n) → Applied value p m k r (First × Second m)
  applied_on m n k First Second (Ok _) d f (e, s) = (
    derived_on value p m n k d e,
    λ h.
        let same : n ≡ m = derived_between value p m n k d e h in
        (f same, subst Second same (s (h ∙ sym same))),
  )
  applied_on m n k First Second (Err _) d f e = failed_before value p m n d e

  pub applied_weaker : (m n : List Mark) (First Second : Type 0) (r : Result (Unit {0}) Clash) → (First → Second) → Applied value p m n r First → Applied value p m n r Second
  applied_weaker m n First Second (Ok _) f (d, h) = (d, λ e. f (h e))
  applied_weaker m n First Second (Err _) f h = h

  module _ (m : List Mark) (q : ℕ) (x : Bool) (w : Wanted value p m q x) where
    marked_open : at m q ≡ Open → (q < length m) ⊎ (length m ≤ q) → Derived value p m (set m q (marked x))
    marked_open o (inl l) = derived_mark value p m q x l o w
    marked_open o (inr l) = subst (Derived value p m) (sym (set_past m q (marked x) l)) (derived_same value p m)

    pub applied_forced : (n : List Mark) (r : Result (Unit {0}) Clash) → Forced m n (record { statement = q; present = x }) r → Applied value p m n r (IsMarked m x q)
    applied_forced n (Ok _) (inl (o, e)) =
        (subst (Derived value p m) (sym e) (marked_open o (cases_lt q (length m))), λ same l. ap (λ k. at k q) (sym same ∙ e) ∙ get_or-set_same m q (marked x) Open l)
    applied_forced n (Ok _) (inr (h, e)) = (subst (Derived value p m) (sym e) (derived_same value p m), λ same l. h)
    applied_forced n (Err _) h = failed_against value p m q x w h

  -- a failure, by whatever name it is handed on
  pub applied_failed : (m n : List Mark) (r : Result (Unit {0}) Clash) (Done : Type 0) → is_err r ≡ true → Failed value p m → Applied value p m n r Done
  applied_failed m n (Ok _) Done e f = absurd (false≢true e)
  applied_failed m n (Err _) Done e f = f

  -- one place more of a run, where statement q stands
  module _ (all : List ℕ) (first end : ℕ) (except : Option ℕ) (x : Bool) (m n : List Mark) (k q : ℕ) (here : q ≡ get_or all k 0) where
    abbrev MarkedTo : ℕ → List Mark → Type 0
    MarkedTo j l = EachOther (IsMarked l x) all first j except

    pub wanted_next : first ≤ k → k < end → EachOther (λ q. Wanted value p m q x) all first end except → Derived value p m n → Other except q → Wanted value p n q x
    wanted_next f l w d = subst (λ i. Other except i → Wanted value p n i x) (sym here) (λ o. wanted_stays value p m n d.adds (get_or all k 0) x (w k f l o))

    pub applied_next : (after : List Mark) (r : Result (Unit {0}) Clash) → Derived value p m n → (n ≡ m → MarkedTo k m) → Applied value p n after r (Other except q → IsMarked n x q) → Applied value p m after r (MarkedTo (k + 1) m)
    applied_next after r d h a = applied_weaker m after _ _ r both (applied_on m n after (MarkedTo k m) (λ l. Other except q → IsMarked l x q) r d h a)
      where
        both : MarkedTo k m × (Other except q → IsMarked m x q) → MarkedTo (k + 1) m
        both (b, c) j f l = ⊎_elim (λ (i : j < k). b j f i) (λ i. let e : k ≡ j = omega arith in subst (λ i. Other except i → IsMarked m x i) (here ∙ ap (λ i. get_or all i 0) e) c) (cases_lt j k)
