-- The marks of a marking, one a statement.
use Rattle.std.specs.Prelude.{◌≡◌, ◌≢◌, ℕ, ◌+◌, ◌<◌, Bool, true, false, List, [], ◌∷◌, Option, Some, None, length, min}
use Rattle.marking.specs.Sets.{contains}
use Rattle.marking.specs.declared.set.Set.{Set}
use Rattle.semantics.specs.FullMarkings.{Full, is_in}
use Rattle.semantics.specs.Markings.{at}
use Rattle.semantics.specs.declared.Mark.{Mark}
use Rattle.semantics.specs.declared.Mark.TheVariants.{Open, In, Out}

-- how many statements are open
abbrev pub open_in : Mark → ℕ
open_in Open = 1
open_in In = 0
open_in Out = 0

abbrev pub how_open : List Mark → ℕ
how_open [] = 0
how_open (v ∷ m) = open_in v + how_open m

-- whether a mark is open
abbrev pub is_open : Mark → Bool
is_open Open = true
is_open In = false
is_open Out = false

-- whether a mark is out
abbrev pub is_out : Mark → Bool
is_out Open = false
is_out In = false
is_out Out = true

-- of two marks the first that is not open
abbrev pub first_mark : Mark → Mark → Mark
first_mark Open w = w
first_mark In w = In
first_mark Out w = Out

-- the first open statement, or that none is open
abbrev pub FirstOpen : List Mark → Option ℕ → Type 0
FirstOpen m (Some q) = (q < length m) × (at m q ≡ Open) × ((k : ℕ) → k < q → at m k ≢ Open)
FirstOpen m None = Full m

-- so many statements, those of the set i in and those of the set o out, which have none in common
pub record Divides (size : ℕ) (i o : Set) (m : List Mark) : Type 0 where
  pub apart : (q : ℕ) → contains i q ≡ true → contains o q ≡ false
  pub long : length m ≡ min size 128
  pub present : (q : ℕ) → q < length m → is_in (at m q) ≡ contains i q
  pub absent : (q : ℕ) → q < length m → is_out (at m q) ≡ contains o q
