-- Quantifiers over lists, and what stands at a place.
use Rattle.std.proofs.Common.{◌≡◌, ℕ, zero, suc, ◌<◌, Bool, true, false, ◌⊎◌, List, [], ◌∷◌, ◌++◌, length, get_or, sym, refl, ap, ◌∙◌, inl, inr, ⊎_elim, arith}
use Rattle.std.proofs.lemmas.Bool.{and_parts, and_from, and_cases, or_cases, or_left, or_parts, or_right, true≢false, false≢true}
use Rattle.semantics.specs.Lists.{Among, Nth}
use Rattle.std.specs.List.{list_all, list_any}

module _ {X : Type 0} (f : X → Bool) where
  pub all_at : (xs : List X) (x : X) → list_all f xs ≡ true → Among x xs → f x ≡ true
  all_at [] x h m = absurd m
  all_at (y ∷ ys) x h (inl e) = ap f (sym e) ∙ (and_parts (f y) (list_all f ys) h).0
  all_at (y ∷ ys) x h (inr m) = all_at ys x (and_parts (f y) (list_all f ys) h).1 m

  pub all_from : (xs : List X) → ((x : X) → Among x xs → f x ≡ true) → list_all f xs ≡ true
  all_from [] h = refl
  all_from (y ∷ ys) h = and_from (f y) (list_all f ys) (h y (inl refl)) (all_from ys (λ x m. h x (inr m)))

  pub all_fails : (xs : List X) → list_all f xs ≡ false → (x : X) × Among x xs × (f x ≡ false)
  all_fails [] h = absurd (true≢false h)
  all_fails (y ∷ ys) h =
      ⊎_elim (λ e. (y, inl refl, e)) (λ e. let r = all_fails ys e in (r.0, inr r.1, r.2)) (and_cases (f y) (list_all f ys) h)

  pub any_one : (xs : List X) → list_any f xs ≡ true → (x : X) × Among x xs × (f x ≡ true)
  any_one [] h = absurd (false≢true h)
  any_one (y ∷ ys) h =
      ⊎_elim (λ e. (y, inl refl, e)) (λ e. let r = any_one ys e in (r.0, inr r.1, r.2)) (or_cases (f y) (list_any f ys) h)

  pub any_none : (xs : List X) (x : X) → list_any f xs ≡ false → Among x xs → f x ≡ false
  any_none [] x h m = absurd m
  any_none (y ∷ ys) x h (inl e) = ap f (sym e) ∙ (or_parts (f y) (list_any f ys) h).0
  any_none (y ∷ ys) x h (inr m) = any_none ys x (or_parts (f y) (list_any f ys) h).1 m

  pub any_from : (xs : List X) (x : X) → Among x xs → f x ≡ true → list_any f xs ≡ true
  any_from [] x m h = absurd m
  any_from (y ∷ ys) x (inl e) h = or_left (f y) (list_any f ys) (ap f e ∙ h)
  any_from (y ∷ ys) x (inr m) h = or_right (f y) (list_any f ys) (any_from ys x m h)

  pub none_from : (xs : List X) → ((x : X) → Among x xs → f x ≡ false) → list_any f xs ≡ false
  none_from [] h = refl
  none_from (y ∷ ys) h = rw (h y (inl refl)) (none_from ys (λ x m. h x (inr m)))

module _ {X : Type 0} where
  pub among_nth : (xs : List X) (x : X) → Among x xs → (i : ℕ) × Nth xs i x
  among_nth [] x a = absurd a
  among_nth (y ∷ ys) x (inl e) = (zero, e)
  among_nth (y ∷ ys) x (inr a) = let n = among_nth ys x a in (suc n.0, n.1)

  pub nth_among : (xs : List X) (i : ℕ) (x : X) → Nth xs i x → Among x xs
  nth_among [] i x a = absurd a
  nth_among (y ∷ ys) zero x a = inl a
  nth_among (y ∷ ys) (suc i) x a = inr (nth_among ys i x a)

  pub nth_same : (xs : List X) (i : ℕ) (x y : X) → Nth xs i x → Nth xs i y → x ≡ y
  nth_same [] i x y a b = absurd a
  nth_same (z ∷ zs) zero x y a b = sym a ∙ b
  nth_same (z ∷ zs) (suc i) x y a b = nth_same zs i x y a b

  -- what stands in a list stands at a place of it, and the other way round
  pub among_place : (xs : List X) (x : X) → Among x xs → (i : ℕ) × (i < length xs) × ((d : X) → get_or xs i d ≡ x)
  among_place [] x m = absurd m
  among_place (y ∷ ys) x (inl e) = (zero, omega arith, λ d. e)
  among_place (y ∷ ys) x (inr m) = let p = among_place ys x m in (suc p.0, omega (arith, p.1), p.2)

  pub among_at : (xs : List X) (k : ℕ) (d : X) → k < length xs → Among (get_or xs k d) xs
  among_at [] k d l = absurd (omega arith)
  among_at (y ∷ ys) zero d l = inl refl
  among_at (y ∷ ys) (suc k) d l = inr (among_at ys k d (omega arith))

  -- the place of what stands there, and what stands at a place
  pub nth_below : (xs : List X) (i : ℕ) (x : X) → Nth xs i x → i < length xs
  nth_below [] i x h = absurd h
  nth_below (y ∷ ys) zero x h = omega arith
  nth_below (y ∷ ys) (suc i) x h = omega (arith, nth_below ys i x h)

  pub nth_at : (xs : List X) (i : ℕ) (d : X) → i < length xs → Nth xs i (get_or xs i d)
  nth_at [] i d l = absurd (omega arith)
  nth_at (y ∷ ys) zero d l = refl
  nth_at (y ∷ ys) (suc i) d l = nth_at ys i d (omega arith)

  pub nth_is : (xs : List X) (i : ℕ) (x d : X) → Nth xs i x → x ≡ get_or xs i d
  nth_is [] i x d h = absurd h
  nth_is (y ∷ ys) zero x d h = sym h
  nth_is (y ∷ ys) (suc i) x d h = nth_is ys i x d h

  -- what stands in two lists together stands in one of them
  pub among_left : (xs ys : List X) (x : X) → Among x xs → Among x (xs ++ ys)
  among_left [] ys x m = absurd m
  among_left (y ∷ xs) ys x (inl e) = inl e
  among_left (y ∷ xs) ys x (inr m) = inr (among_left xs ys x m)

  pub among_right : (xs ys : List X) (x : X) → Among x ys → Among x (xs ++ ys)
  among_right [] ys x m = m
  among_right (y ∷ xs) ys x m = inr (among_right xs ys x m)

  pub among_either : (xs ys : List X) (x : X) → Among x (xs ++ ys) → Among x xs ⊎ Among x ys
  among_either [] ys x m = inr m
  among_either (y ∷ xs) ys x (inl e) = inl (inl e)
  among_either (y ∷ xs) ys x (inr m) = ⊎_elim (λ l. inl (inr l)) inr (among_either xs ys x m)
