-- What the sum of a bag comes to with some, none or all of the open weights.
use Rattle.family.specs.Bags.{Picked}
use Rattle.family.specs.Sums.{above_zero, below_zero, sum_by}
use Rattle.semantics.proofs.Families.{cond_either}
use Rattle.semantics.specs.Families.{total}
use Rattle.std.proofs.lemmas.Int.{clamps, ints}
use Rattle.std.proofs.Common.{◌≡◌, ◌⊎◌, List, [], ◌∷◌, ◌++◌, ℤ, pos, ◌+ℤ◌, ◌≤ℤ◌, refl, ap, inl, inr, ⊎_elim, arith}
use lib.Signed.{lt_z}

pub total_append : (v w : List ℤ) → total (v ++ w) ≡ total v +ℤ total w
total_append [] w = omega (arith, ints)
total_append (x ∷ v) w = omega (arith, ints, total_append v w)

-- a sum of picked weights lies between that of all below zero and that of all above
pub picked_sum : (u o : List ℤ) → Picked u o → (sum_by below_zero o ≤ℤ total u) × (total u ≤ℤ sum_by above_zero o)
picked_sum u [] e = let z = ap total e in (omega (arith, ints), omega (arith, ints))
picked_sum u (w ∷ ws) (inl p) = let (l, g) = picked_sum u ws p in (omega (arith, ints, clamps), omega (arith, ints, clamps))
picked_sum u (w ∷ ws) (inr (v, e, p)) =
    let (l, g) = picked_sum v ws p in
    let z = ap total e in
    (omega (arith, ints, clamps), omega (arith, ints, clamps))

-- where each weight is counted whole or not at all, weights can be picked that have this sum
pub sum_picked : (counted : ℤ → ℤ) → ((w : ℤ) → (counted w ≡ w) ⊎ (counted w ≡ pos 0)) → (o : List ℤ) → (u : List ℤ) × Picked u o × (total u ≡ sum_by counted o)
sum_picked counted either [] = ([], refl, refl)
sum_picked counted either (w ∷ ws) =
    let (u, p, e) = sum_picked counted either ws in
    ⊎_elim (λ f. (w ∷ u, inr (u, refl, p), omega (arith, ints))) (λ f. (u, inl p, omega (arith, ints))) (either w)

pub below_picked : (o : List ℤ) → (u : List ℤ) × Picked u o × (total u ≡ sum_by below_zero o)
below_picked = sum_picked below_zero (λ w. ⊎_elim inr inl (cond_either (lt_z (pos 0) w) (pos 0) w))

pub above_picked : (o : List ℤ) → (u : List ℤ) × Picked u o × (total u ≡ sum_by above_zero o)
above_picked = sum_picked above_zero (λ w. cond_either (lt_z (pos 0) w) w (pos 0))

-- the weights below zero and those above come to the whole sum
pub total_of_parts : (v : List ℤ) → sum_by below_zero v +ℤ sum_by above_zero v ≡ total v
total_of_parts [] = refl
total_of_parts (w ∷ v) = omega (arith, ints, clamps, total_of_parts v)
