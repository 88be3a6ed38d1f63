-- The two bags of a tally, and the values that they reach.
use Rattle.std.specs.Prelude.{◌≡◌, ◌+◌, ◌<◌, ◌⊎◌, List, [], ◌∷◌, ◌++◌, length, ℤ, Option}
use Rattle.semantics.specs.Families.{Weight}

-- a tally with these sure and open weights takes this one too: it has fewer than 128, and the weight is within 1,000,000 of zero
pub record Takes (sure opens : List ℤ) (w : ℤ) : Type 0 where
  pub room : length sure + length opens < 128
  pub small : Weight w

-- u is some, none or all of the weights
abbrev pub Picked : List ℤ → List ℤ → Type 0
Picked u [] = u ≡ []
Picked u (w ∷ ws) = Picked u ws ⊎ ((v : List ℤ) × (u ≡ w ∷ v) × Picked v ws)

-- every sure weight with some, none or all of the open ones comes to this value
abbrev pub Reached : (List ℤ → Option ℤ) → List ℤ → List ℤ → Option ℤ → Type 0
Reached value sure opens r = (u : List ℤ) × Picked u opens × (value (sure ++ u) ≡ r)
