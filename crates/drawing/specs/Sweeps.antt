-- The support of all statements, and what the passes of a sweep come to.
use Rattle.std.specs.Prelude.{◌≡◌, ℕ, ◌+◌, ◌<◌, List, length, Ok, Err, Result, slice_index_or}
use Rattle.drawing.specs.Deriving.{Derived, Failed}
use Rattle.drawing.specs.Passing.{RulePassed, StatementPassed}
use Rattle.drawing.specs.Supports.{Standing, SupportIs, supported_by}
use Rattle.drawing.specs.declared.forcing.Clash.{Clash}
use Rattle.drawing.specs.declared.supports.Support.{Support}
use Rattle.semantics.specs.Families.{Values}
use Rattle.semantics.specs.Programs.{Program, Rule}
use Rattle.semantics.specs.declared.Mark.{Mark}
use Rattle.table.specs.View.{no_rule}

-- the first n rules are counted for each statement: all but those that are named are refuted
abbrev pub Counted : Values → List Rule → ℕ → List Mark → List Support → Type 0
Counted value rules n m by = (q : ℕ) → q < length by → SupportIs value rules n m q (supported_by by q)

-- and those that are named are not
abbrev pub AllStanding : Values → List Rule → List Mark → List Support → Type 0
AllStanding value rules m by = (q : ℕ) → q < length by → Standing value rules m q (supported_by by q)

-- what one rule, number i, adds to the count
pub record CountedMore (value : Values) (rules : List Rule) (i : ℕ) (m : List Mark) (by after : List Support) : Type 0 where
  pub counted : Counted value rules i m by → Counted value rules (i + 1) m after
  pub standing : Counted value rules i m by → AllStanding value rules m by → AllStanding value rules m after

-- after the first i rules, from m to n: they are counted under n, and where no mark was made they are passed
pub record RulesApplied (value : Values) (p : Program) (i : ℕ) (m n : List Mark) (by : List Support) : Type 0 where
  pub derived : Derived value p m n
  pub counted : Counted value p.rules i n by
  pub passed : n ≡ m → (j : ℕ) → j < i → RulePassed value m (slice_index_or p.rules j no_rule)
  pub standing : n ≡ m → AllStanding value p.rules m by

abbrev pub RulesDone : Values → Program → List Mark → List Mark → List Support → Result (Unit {0}) Clash → Type 0
RulesDone value p m n by (Ok _) = RulesApplied value p (length p.rules) m n by
RulesDone value p m n by (Err _) = Failed value p m

-- what a pass over the statements leaves, where it makes no mark
abbrev pub StatementsPassed : Values → List Rule → List Mark → List Support → Type 0
StatementsPassed value rules m by = AllStanding value rules m by → (q : ℕ) → q < length m → StatementPassed value rules m q
