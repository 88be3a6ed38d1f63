-- The first element of a list that passes a test, as a search through the places finds it.
use Rattle.std.proofs.Common.{◌≡◌, ℕ, ◌<◌, ◌≤◌, Bool, true, false, cond, List, length, get_or, Option, Some, None, MatchOption, position, nat_lt, sym, refl, ap, ◌∙◌, subst, ⊎_elim, arith}
use Rattle.std.proofs.lemmas.Bool.Decides.{nat_tests}
use Rattle.std.proofs.lemmas.Bool.{cases_lt}
use Rattle.std.proofs.lemmas.List.Sums.{fails_before_first, passes_at_first, position_or_len_is}
use Rattle.semantics.proofs.Lists.{among_place, nth_at, nth_is}
use Rattle.semantics.specs.Lists.{Among, Nth}
use Rattle.std.specs.List.{position_or_len}

module _ {X : Type 0} (p : X → Bool) (xs : List X) where
  -- a place is the first one, or there is none
  position_at : (i : ℕ) → position_or_len p xs ≡ i → (b : Bool) → nat_lt i (length xs) ≡ b → position p xs ≡ cond b (Some i) None
  position_at i e b l = ap (λ k. cond (nat_lt k (length xs)) (Some k) None) e ∙ ap (λ t. cond t (Some i) None) l

  pub first_found : (d : X) (n : ℕ) (r : Option ℕ) → n ≡ length xs → MatchOption r ((k : ℕ) → 0 ≤ k → k < n → p (get_or xs k d) ≡ false) (λ i. (0 ≤ i) × (i < n) × (p (get_or xs i d) ≡ true) × ((k : ℕ) → 0 ≤ k → k < i → p (get_or xs k d) ≡ false)) → r ≡ position p xs
  first_found d n None e h =
      sym (position_at (length xs) (position_or_len_is p xs (length xs) d (omega arith) (λ k l. h k (omega arith) (omega arith)) (λ l. absurd (omega arith))) false (grind (arith, nat_tests)))
  first_found d n (Some i) e h =
      let inside : i < length xs = omega (arith, h.1) in
      sym (position_at i (position_or_len_is p xs i d (omega arith) (λ k l. h.3 k (omega arith) l) (λ l. h.2)) true (grind (arith, nat_tests)))

  -- what the first one is, and what it means that there is none
  pub record IsFirst (i : ℕ) : Type 0 where
    pub element : X
    pub place : Nth xs i element
    pub passes : p element ≡ true
    pub fails_before : (j : ℕ) (y : X) → j < i → Nth xs j y → p y ≡ false

  abbrev pub FirstOrNone : Option ℕ → Type 0
  FirstOrNone (Some i) = IsFirst i
  FirstOrNone None = (x : X) → Among x xs → p x ≡ false

  pub first_or_none : (d : X) → FirstOrNone (position p xs)
  first_or_none d = ⊎_elim found missing (cases_lt at (length xs))
    where
      at : ℕ
      at = position_or_len p xs

      found : at < length xs → FirstOrNone (position p xs)
      found l = subst FirstOrNone (sym (position_at at refl true (grind (arith, nat_tests)))) (record {
        element = get_or xs at d;
        place = nth_at xs at d l;
        passes = passes_at_first p xs d l;
        fails_before = λ j y less n. ap p (nth_is xs j y d n) ∙ fails_before_first p xs j d less;
      })

      missing : length xs ≤ at → FirstOrNone (position p xs)
      missing l = subst FirstOrNone (sym (position_at at refl false (grind (arith, nat_tests)))) (λ x i.
          let (k, inside, is) = among_place xs x i in
          ap p (sym (is d)) ∙ fails_before_first p xs k d (omega arith))
