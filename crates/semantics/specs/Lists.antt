-- What stands in a list, and at a place of it.
use Rattle.std.specs.Prelude.{◌≡◌, ℕ, zero, suc, ◌⊎◌, List, [], ◌∷◌}

-- x stands somewhere in the list
abbrev pub Among : {X : Type 0} → X → List X → Type 0
Among x [] = ⊥
Among x (y ∷ ys) = (y ≡ x) ⊎ Among x ys

-- x stands at place i of the list
abbrev pub Nth : {X : Type 0} → List X → ℕ → X → Type 0
Nth [] i x = ⊥
Nth (y ∷ ys) zero x = y ≡ x
Nth (y ∷ ys) (suc i) x = Nth ys i x
