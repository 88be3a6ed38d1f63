-- Full markings and their rows.
use Rattle.std.specs.Prelude.{◌≡◌, ℕ, ◌<◌, Bool, true, false, ◌≢◌, List, map, length}
use Rattle.semantics.specs.declared.Mark.{Mark}
use Rattle.semantics.specs.declared.Mark.TheVariants.{Open, In, Out}
use Rattle.semantics.specs.Markings.{at, Agrees}

-- whether a mark is in
abbrev pub is_in : Mark → Bool
is_in Open = false
is_in In = true
is_in Out = false

-- the row that has just what is marked in
abbrev pub row_of : List Mark → List Bool
row_of m = map is_in m

-- no statement is open
abbrev pub Full : List Mark → Type 0
Full m = (q : ℕ) → q < length m → at m q ≢ Open

-- the row is of the statements of the marking, has what is marked in and lacks what is marked out
pub record Extends (m : List Mark) (s : List Bool) : Type 0 where
  pub long : length s ≡ length m
  pub agrees : Agrees m s
