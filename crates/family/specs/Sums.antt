-- Sums of weights.
use Rattle.std.specs.Prelude.{ℕ, ◌*◌, List, [], ◌∷◌, ℤ, pos, ◌+ℤ◌, neg_ℤ, ◌≤ℤ◌}
use Rattle.std.specs.Int.{int_max, int_min}

-- the sum of the weights, each counted as this says
abbrev pub sum_by : (ℤ → ℤ) → List ℤ → ℤ
sum_by counted [] = pos 0
sum_by counted (w ∷ ws) = counted w +ℤ sum_by counted ws

-- only a weight below zero is counted, or only one above
abbrev pub below_zero : ℤ → ℤ
below_zero w = int_min w (pos 0)

abbrev pub above_zero : ℤ → ℤ
above_zero w = int_max w (pos 0)

-- as near to zero as a sum of n weights
abbrev pub Bounded : ℤ → ℕ → Type 0
Bounded z n = (neg_ℤ (pos (1000000 * n)) ≤ℤ z) × (z ≤ℤ pos (1000000 * n))
