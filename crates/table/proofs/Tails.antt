-- The elements of a run from a place on, for loops that go from the last place to the first.
use Rattle.std.proofs.Common.{◌≡◌, ℕ, suc, ◌+◌, ◌-◌, ◌<◌, ◌≤◌, List, [], ◌∷◌, length, get_or, take, drop, sym, ap, ◌∙◌, subst, arith}
use Rattle.std.proofs.lemmas.List.{drop_more}
use Rattle.semantics.proofs.Lists.{among_at}
use Rattle.semantics.specs.Lists.{Among}
use Rattle.table.proofs.Slices.{among_slice, length_slice, slice_at}
use Rattle.table.specs.Contents.{slice}
use Rattle.table.specs.View.{Covers}
use Rattle.table.specs.declared.table.Run.{Run}

-- the elements at the places from k to before end
abbrev pub tail : {X : Type 0} → List X → ℕ → ℕ → List X
tail all end k = slice k (end - k) all

module _ {X : Type 0} (all : List X) (end : ℕ) where
  -- nothing stands from the end on
  pub tail_none : tail all end end ≡ []
  tail_none = let e : end - end ≡ 0 = omega arith in ap (λ n. slice end n all) e

  take_head : (n m : ℕ) (x : X) (xs : List X) → n ≡ m + 1 → take n (x ∷ xs) ≡ x ∷ take m xs
  take_head n m x xs e = let f : n ≡ suc m = omega arith in ap (λ k. take k (x ∷ xs)) f

  -- one place more
  pub tail_more : (k : ℕ) (d : X) → 1 ≤ k → k ≤ end → end ≤ length all → tail all end (k - 1) ≡ get_or all (k - 1) d ∷ tail all end k
  tail_more k d p l i =
      let e : k - 1 + 1 ≡ k = omega arith in
      ap (take (end - (k - 1))) (drop_more all (k - 1) d (omega arith))
      ∙ take_head (end - (k - 1)) (end - k) _ _ (omega arith)
      ∙ ap (λ j. get_or all (k - 1) d ∷ take (end - k) (drop j all)) e

  pub length_tail : (k : ℕ) → k ≤ end → end ≤ length all → length (tail all end k) ≡ end - k
  length_tail k l i = length_slice k (end - k) all (omega arith)

-- from the first place on stands the whole run
pub tail_all : {X : Type 0} (all xs : List X) (r : Run) (k : ℕ) → Covers all xs r → k ≡ r.first → tail all r.end k ≡ xs
tail_all all xs r k c e = ap (tail all r.end) e ∙ sym c.part

-- what holds of each element of a run holds at each of its places, and the other way round
pub each_place : {X : Type 0} (all xs : List X) (r : Run) (d : X) (P : X → Type 0) → Covers all xs r → ((x : X) → Among x xs → P x) → (k : ℕ) → r.first ≤ k → k < r.end → P (get_or all k d)
each_place all xs r d P c h k f l =
    let n = r.end - r.first in
    let i = k - r.first in
    let long : length (slice r.first n all) ≡ n = length_slice r.first n all (omega (arith, c.inside)) in
    let here : get_or (slice r.first n all) i d ≡ get_or all (r.first + i) d = slice_at r.first n all i d (omega arith) in
    let e : r.first + i ≡ k = omega arith in
    subst P (here ∙ ap (λ j. get_or all j d) e) (h _ (subst (λ ys. Among (get_or (slice r.first n all) i d) ys) (sym c.part) (among_at (slice r.first n all) i d (omega arith))))

pub each_among : {X : Type 0} (all xs : List X) (r : Run) (d : X) (P : X → Type 0) → Covers all xs r → ((k : ℕ) → r.first ≤ k → k < r.end → P (get_or all k d)) → (x : X) → Among x xs → P x
each_among all xs r d P c h x i =
    let n = r.end - r.first in
    let at = among_slice r.first n all x (subst (Among x) c.part i) in
    subst P (at.2 d) (h (r.first + at.0) (omega arith) (omega (arith, at.1, c.forward)))
