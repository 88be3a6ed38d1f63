-- Filling an array from its first place on.
use Rattle.std.proofs.Common.{◌≡◌, ◌∙◌, ℕ, ◌+◌, ◌<◌, ◌≤◌, min, List, length, get_or, set, replicate, arith, ⊎_elim}
use Rattle.std.proofs.lemmas.Bool.{cases_eq}
use Rattle.std.proofs.lemmas.List.{get_or-replicate, get_or-set_other, get_or-set_same, length-replicate, length-set}

-- an array of so many places: those before place i, and those from place n on, hold what P says
pub record Filled {X : Type 0} (P : ℕ → X → Type 0) (size n : ℕ) (xs : List X) (i : ℕ) : Type 0 where
  pub long : length xs ≡ size
  pub holds : (k : ℕ) (d : X) → k < size → (i ≤ k → n ≤ k) → P k (get_or xs k d)

module _ {X : Type 0} (P : ℕ → X → Type 0) (size n : ℕ) where
  -- before the first place what it begins with has to be right from place n on
  pub filled_none : (x : X) → ((k : ℕ) → k < size → n ≤ k → P k x) → Filled P size n (replicate size x) 0
  filled_none x h = record { long = length-replicate size x; holds = λ k d l past. rw (get_or-replicate size k x d l) (h k l (past (omega arith))) }

  pub filled_more : (xs : List X) (i : ℕ) (x : X) → i < size → Filled P size n xs i → P i x → Filled P size n (set xs i x) (i + 1)
  filled_more xs i x inside f here = record { long = length-set xs i x ∙ f.long; holds = holds }
    where
      holds : (k : ℕ) (d : X) → k < size → (i + 1 ≤ k → n ≤ k) → P k (get_or (set xs i x) k d)
      holds k d l past =
          ⊎_elim
          (λ (e : k ≡ i). rw (e, get_or-set_same xs i x d (omega (arith, f.long))) here)
          (λ ne. rw (get_or-set_other xs i k x d ne) (f.holds k d l (λ j. past (omega arith))))
          (cases_eq k i)

  pub filled_all : (xs : List X) (i : ℕ) → Filled P size n xs i → min size n ≤ i → (k : ℕ) (d : X) → k < length xs → P k (get_or xs k d)
  filled_all xs i f last k d l = let long = f.long in f.holds k d (omega arith) (λ j. omega arith)
