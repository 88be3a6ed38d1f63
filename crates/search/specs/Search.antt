-- What a search finds: of the rows that fit and extend a marking, the earliest.
use Rattle.std.specs.Prelude.{◌≡◌, ℕ, Bool, ◌≢◌, List, length, Some, None, Option}
use Rattle.marking.specs.declared.marking.Marking.{Marking}
use Rattle.semantics.specs.FullMarkings.{row_of, Full, Extends}
use Rattle.semantics.specs.Rows.{Precedes}
use Rattle.semantics.specs.declared.Mark.{Mark}

-- a row of so many statements that fits and extends the start
pub record Solves (fits : List Bool → Type 0) (size : ℕ) (start : List Mark) (s : List Bool) : Type 0 where
  pub long : length s ≡ size
  pub fitting : fits s
  pub extends : Extends start s

-- the full marking of a solution before which no other comes
pub record EarliestSolution (fits : List Bool → Type 0) (size : ℕ) (start m : List Mark) : Type 0 where
  pub full : Full m
  pub solution : Solves fits size start (row_of m)
  pub others : (t : List Bool) → Solves fits size start t → t ≢ row_of m → Precedes (row_of m) t

-- the earliest solution, or that there is none
abbrev pub Sought : (List Bool → Type 0) → ℕ → List Mark → Option Marking → Type 0
Sought fits size start (Some m) = EarliestSolution fits size start m
Sought fits size start None = (s : List Bool) → Solves fits size start s → ⊥
