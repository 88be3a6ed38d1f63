-- What a chain of checks, and a loop of checks, returns.
use Rattle.std.proofs.Common.{◌≡◌, ℕ, zero, suc, ◌+◌, ◌<◌, List, [], ◌∷◌, ◌++◌, IsErrAnd, Ok, Err, Result, sym, refl, ap, ◌∙◌, inl, inr, arith, below_more, append_assoc, slice_index_or}
use Rattle.std.proofs.lemmas.Result.{err_from_is_err_and}
use Rattle.std.proofs.lemmas.Bool.{cases_lt}
use Rattle.format.specs.Faults.{each, verdict}
use Rattle.format.specs.Header.{every_area}
use Rattle.layout.specs.declared.area.Area.{Area}
use Rattle.layout.specs.declared.area.Area.TheVariants.{Statements, Rules, Literals, Aggregates, Members, Names}
use Rattle.refusal.specs.declared.Fault.{Fault}

-- no fault: the list is empty
pub clean : {X : Type 0} (xs : List Fault) (x y : X) → verdict xs x ≡ Ok y → xs ≡ []
clean [] x y e = refl
clean (f ∷ fs) x y e = cc

-- a fault of the front is the first of the whole, whatever the value would be
front_fault : {X Y : Type 0} (xs ys : List Fault) (x : X) (y : Y) (f : Fault) → verdict xs x ≡ Err f → verdict (xs ++ ys) y ≡ Err f
front_fault [] ys x y f e = cc
front_fault (g ∷ gs) ys x y f e = ap Err (cc)

same_fault : {X Y : Type 0} (xs : List Fault) (x : X) (y : Y) (f : Fault) → verdict xs x ≡ Err f → verdict xs y ≡ Err f
same_fault [] x y f e = cc
same_fault (g ∷ gs) x y f e = ap Err (cc)

pub parts : (xs ys : List Fault) → xs ++ ys ≡ [] → (xs ≡ []) × (ys ≡ [])
parts [] ys e = (refl, e)
parts (x ∷ xs) ys e = cc

-- A chain of checks: where it leaves by a `?`, at its last check, and past a check that was clean.
module _ {X : Type 0} (r : Result X Fault) (e : Fault) (b : IsErrAnd r (λ y. y ≡ e)) where
  left : r ≡ Err e
  left = let p = err_from_is_err_and {Q = λ y. y ≡ e} r b in p.1 ∙ ap Err p.2

  pub leaves_here : (xs ys : List Fault) (x : X) → Err e ≡ verdict xs (tt {0}) → r ≡ verdict (xs ++ ys) x
  leaves_here xs ys x h = left ∙ sym (front_fault xs ys (tt {0}) x e (sym h))

  pub leaves_last : (xs : List Fault) (x : X) → Err e ≡ verdict xs (tt {0}) → r ≡ verdict xs x
  leaves_last xs x h = left ∙ sym (same_fault xs (tt {0}) x e (sym h))

pub goes_past : {X : Type 0} (r : Result X Fault) (xs ys : List Fault) (x : X) → Ok (tt {0}) ≡ verdict xs (tt {0}) → r ≡ verdict ys x → r ≡ verdict (xs ++ ys) x
goes_past r xs ys x h k = rw (clean xs (tt {0}) (tt {0}) (sym h)) k

pub ends_clean : {X : Type 0} (xs : List Fault) (x y : X) → Ok (tt {0}) ≡ verdict xs (tt {0}) → x ≡ y → Ok x ≡ verdict xs y
ends_clean xs x y h e = rw (clean xs (tt {0}) (tt {0}) (sym h), e)

-- The faults of records 0 to n - 1.
each_none : (f : ℕ → List Fault) (n : ℕ) → ((k : ℕ) → k < n → f k ≡ []) → each n f ≡ []
unfolding each
each_none f zero h = refl
each_none f (suc n) h = rw (each_none f n (λ k l. h k (omega arith)), h n (omega arith))

pub each_clean : (f : ℕ → List Fault) (n : ℕ) → each n f ≡ [] → (k : ℕ) → k < n → f k ≡ []
unfolding each
each_clean f zero e k l = absurd (omega arith)
each_clean f (suc n) e k l =
    let p = parts (each n f) (f n) e in
    elim (cases_lt k n) [ inl h ↦ each_clean f n p.0 k h | inr h ↦ let q : k ≡ n = omega arith in rw q p.1 ]

each_first : {X Y : Type 0} (f : ℕ → List Fault) (n i : ℕ) (x : X) (y : Y) (e : Fault) → i < n → ((k : ℕ) → k < i → f k ≡ []) → verdict (f i) x ≡ Err e → verdict (each n f) y ≡ Err e
unfolding each
each_first f zero i x y e l before h = absurd (omega arith)
each_first f (suc n) i x y e l before h =
    elim (cases_lt i n) [
      | inl m ↦ front_fault (each n f) (f n) y y e (each_first f n i x y e m before h)
      | inr m ↦
          let q : n ≡ i = omega arith in
          let none : each n f ≡ [] = each_none f n (λ k m'. before k (omega arith)) in
          rw (none, q) (same_fault (f i) x y e h)
    ]

-- A loop of checks: where it leaves, its next turn, and its end.
pub each_leaves : (r : Result (Unit {0}) Fault) (f : ℕ → List Fault) (n i : ℕ) (e : Fault) → IsErrAnd r (λ y. y ≡ e) → Err e ≡ verdict (f i) (tt {0}) → i < n → ((k : ℕ) → k < i → f k ≡ []) → r ≡ verdict (each n f) (tt {0})
each_leaves r f n i e b h l before = left r e b ∙ sym (each_first f n i (tt {0}) (tt {0}) e l before (sym h))

pub each_more : (f : ℕ → List Fault) (i : ℕ) → ((k : ℕ) → k < i → f k ≡ []) → Ok (tt {0}) ≡ verdict (f i) (tt {0}) → (k : ℕ) → k < i + 1 → f k ≡ []
each_more f i before h = below_more (λ k. f k ≡ []) i before (clean (f i) (tt {0}) (tt {0}) (sym h))

pub each_passed : {X : Type 0} (f : ℕ → List Fault) (n : ℕ) (x : X) → ((k : ℕ) → k < n → f k ≡ []) → Ok x ≡ verdict (each n f) x
each_passed f n x h = rw (each_none f n h)

-- The six areas in turn are the records 0 to 5 of a list.
abbrev areas : List Area
areas = Statements ∷ (Rules ∷ (Literals ∷ (Aggregates ∷ (Members ∷ (Names ∷ [])))))

abbrev pub at_area : (Area → List Fault) → ℕ → List Fault
at_area f k = f (slice_index_or areas k Statements)

pub every_area_each : (f : Area → List Fault) → every_area f ≡ each 6 (at_area f)
unfolding each
every_area_each f = simp append_assoc
