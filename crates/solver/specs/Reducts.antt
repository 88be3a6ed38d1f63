-- Which rules bind the parts of a row.
use Rattle.std.specs.Prelude.{◌≡◌, ◌↔◌, ℕ, ◌<◌, ◌≤◌, Bool, true, false, IsTrue, List, length, slice_index_or}
use Rattle.semantics.specs.AnswerSets.{BodyTrue, obeys}
use Rattle.semantics.specs.Families.{Values}
use Rattle.semantics.specs.FullMarkings.{Full}
use Rattle.semantics.specs.Programs.{Rule}
use Rattle.semantics.specs.declared.Mark.{Mark}
use Rattle.solver.specs.declared.reducing.Reduced.{Reduced}
use Rattle.solver.specs.declared.reducing.Reduced.TheVariants.{To, Broken}
use Rattle.table.specs.View.{no_rule}

-- a full marking of so many statements
pub record Whole (n : ℕ) (m : List Mark) : Type 0 where
  pub full : Full m
  pub long : length m ≡ n

-- whether rule i is kept
abbrev pub keeps : List Bool → ℕ → Bool
keeps kept i = slice_index_or kept i false

-- of the first n rules, just those are kept whose body is true in s; and no other rule is
pub record Reduces (value : Values) (rules : List Rule) (s : List Bool) (n : ℕ) (kept : List Bool) : Type 0 where
  pub bodies : (i : ℕ) → i < n → (IsTrue (keeps kept i) ↔ BodyTrue value s (slice_index_or rules i no_rule))
  pub others : (i : ℕ) → n ≤ i → keeps kept i ≡ false

-- the reduct of a row that obeys itself, or that it does not
abbrev pub ReductOf : Values → List Rule → List Bool → Reduced → Type 0
ReductOf value rules s (To r) = Reduces value rules s (length rules) r.kept × (obeys value s s rules ≡ true)
ReductOf value rules s (Broken i) = obeys value s s rules ≡ false
