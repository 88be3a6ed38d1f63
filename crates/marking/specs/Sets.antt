-- Sets of statements below 128, by the digits of a number.
use Rattle.std.specs.Prelude.{◌≡◌, ◌==◌, ℕ, ◌<◌, Bool, true, false, List, map, Option, Some, None}
use Rattle.marking.specs.declared.set.Set.{Set}
use Rattle.std.specs.Int.{bit_at}
use Rattle.std.specs.List.{range_with_len}

-- whether statement q is in the set: its digit is one
unfoldable pub contains : Set → ℕ → Bool
contains s q = bit_at s.digits q == 1

-- some statement is in both sets
abbrev pub Meets : Set → Set → Type 0
Meets s t = (q : ℕ) × (contains s q ≡ true) × (contains t q ≡ true)

-- each statement of s is in t
abbrev pub Within : Set → Set → Type 0
Within s t = (q : ℕ) → contains s q ≡ true → contains t q ≡ true

-- the least statement of the set, or that it has none
abbrev pub FirstOf : Set → Option ℕ → Type 0
FirstOf s (Some q) = (q < 128) × (contains s q ≡ true) × ((k : ℕ) → k < q → contains s k ≡ false)
FirstOf s None = (q : ℕ) → contains s q ≡ false

-- q is in the set, and nothing else
abbrev pub Alone : Set → ℕ → Type 0
Alone s q = (k : ℕ) → contains s k ≡ (k == q)

-- the statement that is alone in the set, or that there is none
abbrev pub OnlyOf : Set → Option ℕ → Type 0
OnlyOf s (Some q) = (q < 128) × Alone s q
OnlyOf s None = (q : ℕ) → Alone s q → ⊥

-- the set as a row of marks, true at each statement that is in it
unfoldable pub row : Set → List Bool
row s = map (contains s) (range_with_len 0 128)
