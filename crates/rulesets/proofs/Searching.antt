-- What a search through the places of a run says of the elements of the run.
use Rattle.semantics.specs.Lists.{Among}
use Rattle.std.proofs.Common.{◌≡◌, ◌↔◌, IsTrue, MatchBool, ℕ, ◌+◌, ◌-◌, ◌<◌, ◌≤◌, Bool, true, false, List, length, get_or, refl, subst, arith}
use Rattle.std.proofs.lemmas.Bool.{false≢true}
use Rattle.std.proofs.lemmas.List.FromFn.{get_or-range_with_len, length-range_with_len}
use Rattle.std.specs.List.{AllWithin, HoldsAt, range_with_len}
use Rattle.table.proofs.Tails.{each_among, each_place}
use Rattle.table.specs.View.{Covers}
use Rattle.table.specs.declared.table.Run.{Run}

-- the places of a run
abbrev pub places : Run → List ℕ
places r = range_with_len r.first (r.end - r.first)

module _ (r : Run) (Q : ℕ → Type 0) where
  at_each : AllWithin Q (places r) 0 (length (places r)) → (j : ℕ) → r.first ≤ j → j < r.end → Q j
  at_each h j f l =
      let n = r.end - r.first in
      let k = j - r.first in
      let there : get_or (places r) k 0 ≡ j = omega (arith, get_or-range_with_len r.first n k 0 (omega arith)) in
      subst Q there (h k 0 (omega arith) (omega (arith, length-range_with_len r.first n)))

  at_one : (k : ℕ) × (k < length (places r)) × HoldsAt Q (places r) k → (j : ℕ) × (r.first ≤ j) × (j < r.end) × Q j
  at_one (k, l, h) =
      let n = r.end - r.first in
      let inside : k < n = omega (arith, l, length-range_with_len r.first n) in
      (r.first + k, omega arith, omega arith, subst Q (get_or-range_with_len r.first n k 0 inside) (h 0))

module _ {X : Type 0} (all xs : List X) (r : Run) (d : X) (P : X → Type 0) (cover : Covers all xs r) where
  abbrev Here : ℕ → Type 0
  Here j = P (get_or all j d)

  abbrev Lacks : ℕ → Type 0
  Lacks j = P (get_or all j d) → ⊥

  -- whether all have P, place by place
  pub all_decided : (b : Bool) → MatchBool b (AllWithin Here (places r) 0 (length (places r))) ((k : ℕ) × (k < length (places r)) × HoldsAt Lacks (places r) k) → (IsTrue b ↔ ((x : X) → Among x xs → P x))
  all_decided true h = ((λ e. each_among all xs r d P cover (at_each r Here h)), λ e. refl)
  all_decided false h =
      let (j, f, l, n) = at_one r Lacks h in
      ((λ e. absurd (false≢true e)), λ a. absurd (n (each_place all xs r d P cover a j f l)))

  -- whether some one has P
  pub some_decided : (b : Bool) → MatchBool b ((k : ℕ) × (k < length (places r)) × HoldsAt Here (places r) k) (AllWithin Lacks (places r) 0 (length (places r))) → (IsTrue b ↔ ((x : X) × Among x xs × P x))
  some_decided true h =
      let (j, f, l, p) = at_one r Here h in
      ((λ e. (get_or all j d, each_place all xs r d (λ x. Among x xs) cover (λ x i. i) j f l, p)), λ e. refl)
  some_decided false h =
      ((λ e. absurd (false≢true e)), λ (x, i, p). absurd (each_among all xs r d (λ x. P x → ⊥) cover (at_each r Lacks h) x i p))
