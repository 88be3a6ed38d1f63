-- Runs that follow each other from 0 on: they fill what lies before the end of the last.
use Rattle.std.proofs.Common.{◌≡◌, ℕ, zero, suc, ◌+◌, ◌-◌, ◌<◌, ◌≤◌, List, [], ◌∷◌, ◌++◌, map, length, take, sym, ap, ◌∙◌, inl, inr, add-one, arith, take-add}
use Rattle.std.proofs.lemmas.List.FromFn.{map-range_with_len_more}
use Rattle.std.proofs.lemmas.List.{flat_map_more, take_all}
use Rattle.std.proofs.lemmas.Bool.{cases_lt}
use Rattle.std.specs.List.{range_with_len, flat_map}
use Rattle.table.specs.Contents.{slice}

-- run i has len i elements from start i on, and end i is where the run before it ends
pub record Runs (end start len : ℕ → ℕ) (n : ℕ) : Type 0 where
  pub from_zero : end 0 ≡ 0
  pub next : (i : ℕ) → end (suc i) ≡ start i + len i
  pub follows : (i : ℕ) → i < n → start i ≡ end i

module _ {end start len : ℕ → ℕ} where
  fewer_runs : {n : ℕ} → Runs end start len (suc n) → Runs end start len n
  fewer_runs r = record { from_zero = r.from_zero; next = r.next; follows = λ i l. r.follows i (omega arith) }

  -- the parts of a list that the runs are, put together
  runs_joined : {X Y : Type 0} (part : Y → List X) (f : ℕ → Y) (xs : List X) (n : ℕ) → Runs end start len n → ((i : ℕ) → i < n → part (f i) ≡ slice (start i) (len i) xs) → flat_map part (map f (range_with_len 0 n)) ≡ take (end n) xs
  runs_joined part f xs zero r is = rw r.from_zero
  runs_joined part f xs (suc n) r is =
      let more : map f (range_with_len 0 (suc n)) ≡ map f (range_with_len 0 n) ++ f n ∷ [] = ap (λ k. map f (range_with_len 0 k)) (sym (add-one n)) ∙ map-range_with_len_more f 0 n n (omega arith) in
      let here = r.follows n (omega arith) in
      ap (flat_map part) more
      ∙ sym (flat_map_more part [] (map f (range_with_len 0 n)) (f n))
      ∙ rw (runs_joined part f xs n (fewer_runs r) (λ i l. is i (omega arith)), is n (omega arith), r.next n, here) (sym (take-add (end n) (len n) xs))

  -- all of a list that the runs fill
  pub runs_fill : {X Y : Type 0} (part : Y → List X) (f : ℕ → Y) (xs : List X) (n : ℕ) → Runs end start len n → ((i : ℕ) → i < n → part (f i) ≡ slice (start i) (len i) xs) → end n ≡ length xs → flat_map part (map f (range_with_len 0 n)) ≡ xs
  runs_fill part f xs n r is full = runs_joined part f xs n r is ∙ take_all (end n) xs (omega arith)

  -- each run ends before the end of the last
  pub run_inside : (n : ℕ) → Runs end start len n → (i : ℕ) → i < n → start i + len i ≤ end n
  run_inside zero r i l = absurd (omega arith)
  run_inside (suc n) r i l =
      elim (cases_lt i n) [
        | inl h ↦ omega (arith, run_inside n (fewer_runs r) i h, r.next n, r.follows n (omega arith))
        | inr h ↦ let e : i ≡ n = omega arith in rw e (omega (arith, r.next n))
      ]

  -- what lies before the end of the last run lies in a run
  pub run_with : (n : ℕ) → Runs end start len n → (k : ℕ) → k < end n → (i : ℕ) × (i < n) × ((m : ℕ) × (m < len i) × (k ≡ start i + m))
  run_with zero r k l = absurd (omega (arith, r.from_zero))
  run_with (suc n) r k l =
      elim (cases_lt k (end n)) [
        | inl h ↦ let p = run_with n (fewer_runs r) k h in (p.0, omega (arith, p.1), p.2)
        | inr h ↦ (n, omega arith, (k - end n, omega (arith, r.next n, r.follows n (omega arith)), omega (arith, r.follows n (omega arith))))
      ]

-- runs of the same lengths start at the same places
module _ {end start len end' start' len' : ℕ → ℕ} {m n : ℕ} (runs : Runs end start len m) (runs' : Runs end' start' len' n) (same : m ≡ n) (long : (i : ℕ) → i < m → len i ≡ len' i) where
  same_ends : (i : ℕ) → i ≤ m → end i ≡ end' i
  same_ends zero l = runs.from_zero ∙ sym runs'.from_zero
  same_ends (suc i) l =
      omega (arith, same_ends i (omega arith), long i l, runs.next i, runs'.next i, runs.follows i l, runs'.follows i (omega arith))

  pub same_starts : (i : ℕ) → i < m → start i ≡ start' i
  same_starts i l = runs.follows i l ∙ same_ends i (omega arith) ∙ sym (runs'.follows i (omega arith))
