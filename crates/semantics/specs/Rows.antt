-- A set of statements is a row of marks: true at the number of each statement that is in the set.
use Rattle.std.specs.Prelude.{◌≡◌, ℕ, ◌+◌, ◌<◌, Bool, true, false, if◌then◌else◌, ◌≢◌, List, [], ◌∷◌, length, slice_index_or}

-- statement q is in the set s
abbrev pub has : List Bool → ℕ → Bool
has s q = slice_index_or s q false

-- how many statements are in the set
abbrev pub how_many : List Bool → ℕ
how_many [] = 0
how_many (b ∷ s) = (if b then 1 else 0) + how_many s

-- every statement of t is in s
abbrev pub Part : List Bool → List Bool → Type 0
Part t s = (q : ℕ) → has t q ≡ true → has s q ≡ true

pub record ProperPart (t s : List Bool) : Type 0 where
  pub long : length t ≡ length s
  pub part : Part t s
  pub differs : t ≢ s

-- a comes before b: at the first statement on which they differ, a has it and b has not
pub record Precedes (a b : List Bool) : Type 0 where
  pub at : ℕ
  pub same : (q : ℕ) → q < at → has a q ≡ has b q
  pub first : has a at ≡ true
  pub second : has b at ≡ false
