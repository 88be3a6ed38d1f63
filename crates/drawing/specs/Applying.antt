-- What comes of marking what is wanted.
use Rattle.std.specs.Prelude.{◌≡◌, ℕ, ◌<◌, ◌≤◌, Bool, not, ◌⊎◌, List, length, Some, None, Ok, Err, Option, Result, slice_index, slice_set}
use Rattle.drawing.specs.Deriving.{Derived, Failed}
use Rattle.drawing.specs.declared.forcing.Clash.{Clash}
use Rattle.judging.specs.declared.literals.Literal.{Literal}
use Rattle.semantics.specs.Families.{Values}
use Rattle.semantics.specs.Markings.{at, marked}
use Rattle.semantics.specs.Programs.{Program}
use Rattle.semantics.specs.declared.Mark.{Mark}
use Rattle.semantics.specs.declared.Mark.TheVariants.{Open}

-- n comes from m by marks that are wanted, and where none was made this holds; or m has failed
abbrev pub Applied : Values → Program → List Mark → List Mark → Result (Unit {0}) Clash → Type 0 → Type 0
Applied value p m n (Ok _) Done = Derived value p m n × (n ≡ m → Done)
Applied value p m n (Err _) Done = Failed value p m

-- an open statement is marked, one that is so marked already is left, and one with the contrary mark is a clash
abbrev pub Forced : List Mark → List Mark → Literal → Result (Unit {0}) Clash → Type 0
Forced m n l (Ok _) = ((at m l.statement ≡ Open) × (n ≡ slice_set m l.statement (marked l.present))) ⊎ ((at m l.statement ≡ marked l.present) × (n ≡ m))
Forced m n l (Err _) = at m l.statement ≡ marked (not l.present)

-- not the statement that is left out
abbrev pub Other : Option ℕ → ℕ → Type 0
Other None q = Unit {0}
Other (Some p) q = q ≡ p → ⊥

-- what holds of every statement at the places from first to before end, but for the one that is left out
abbrev pub EachOther : (ℕ → Type 0) → List ℕ → ℕ → ℕ → Option ℕ → Type 0
EachOther P all first end except = (k : ℕ) → first ≤ k → k < end → Other except (slice_index all k) → P (slice_index all k)

-- the statement, where the marking has it, is marked so
abbrev pub IsMarked : List Mark → Bool → ℕ → Type 0
IsMarked m x q = q < length m → at m q ≡ marked x
