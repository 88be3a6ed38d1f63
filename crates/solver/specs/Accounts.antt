-- The accounts that extend a marking.
use Rattle.std.specs.Prelude.{◌≡◌, ◌≢◌, ◌≤◌, ◌⊎◌, ℕ, Bool, true, false, not, List, length, Some, None, Option}
use Rattle.marking.specs.declared.marking.Marking.{Marking}
use Rattle.semantics.specs.AnswerSets.{AnswerSet, Earliest, Supports}
use Rattle.semantics.specs.AnswerSets.{Account as AccountOf, NoAccount as NoAccountOf}
use Rattle.semantics.specs.Families.{Values}
use Rattle.semantics.specs.FullMarkings.{Extends, Full, row_of}
use Rattle.semantics.specs.Lists.{Among}
use Rattle.semantics.specs.Markings.{at, marked}
use Rattle.semantics.specs.Programs.{Program, Rule}
use Rattle.semantics.specs.Rows.{Precedes, has, how_many}
use Rattle.semantics.specs.declared.Finding.{Finding}
use Rattle.semantics.specs.declared.Mark.{Mark}
use Rattle.solver.specs.declared.account.Account.{Account}
use Rattle.solver.specs.declared.weighing.Weighing.{Weighing}
use Rattle.solver.specs.declared.weighing.Weighing.TheVariants.{InEvery, InNone, InSome, NoAccount}

-- an answer set that extends the marking
pub record AccountFrom (value : Values) (p : Program) (start : List Mark) (s : List Bool) : Type 0 where
  pub answer : AnswerSet value p s
  pub extends : Extends start s

-- no answer set extends the marking
abbrev pub NoAccountFrom : Values → Program → List Mark → Type 0
NoAccountFrom value p start = (s : List Bool) → AccountFrom value p start s → ⊥

-- an account as it is handed out: every statement marked, the number that is in, and a rule that supports each of these
pub record InFull (value : Values) (p : Program) (a : Account) : Type 0 where
  pub full : Full a.marks
  pub counted : a.statements_in ≡ how_many (row_of a.marks)
  pub supported : (q : ℕ) → has (row_of a.marks) q ≡ true → (r : Rule) × Among r p.rules × Supports value (row_of a.marks) q r

-- the earliest of the accounts that extend the marking
pub record EarliestFrom (value : Values) (p : Program) (start : List Mark) (a : Account) : Type 0 where
  pub in_full : InFull value p a
  pub account : AccountFrom value p start (row_of a.marks)
  pub others : (t : List Bool) → AccountFrom value p start t → t ≢ row_of a.marks → Precedes (row_of a.marks) t

-- the earliest account, or that there is none
abbrev pub Seeks : Values → Program → List Mark → Option Account → Type 0
Seeks value p start (Some a) = EarliestFrom value p start a
Seeks value p start None = NoAccountFrom value p start

-- the earliest of the accounts of findings
pub record EarliestFor (value : Values) (p : Program) (findings : List Finding) (a : Account) : Type 0 where
  pub in_full : InFull value p a
  pub earliest : Earliest value p findings (row_of a.marks)

-- the earliest account of findings, or that there is none
abbrev pub SeeksFor : Values → Program → List Finding → Option Account → Type 0
SeeksFor value p findings (Some a) = EarliestFor value p findings a
SeeksFor value p findings None = NoAccountOf value p findings

-- the marks of an account, where there is one
abbrev pub marks_of : Option Account → Option Marking
marks_of (Some a) = Some a.marks
marks_of None = None

-- some account has the statement (true), or lacks it (false)
abbrev pub SomeAccount : Values → Program → List Mark → ℕ → Bool → Type 0
SomeAccount value p start q x = (s : List Bool) × AccountFrom value p start s × (has s q ≡ x)

-- every account has the statement, or lacks it
abbrev pub EveryAccount : Values → Program → List Mark → ℕ → Bool → Type 0
EveryAccount value p start q x = (s : List Bool) → AccountFrom value p start s → has s q ≡ x

-- what is told of a statement over the accounts that extend the marking
abbrev pub Weighs : Values → Program → List Mark → ℕ → Weighing → Type 0
Weighs value p start q NoAccount = NoAccountFrom value p start
Weighs value p start q InEvery = SomeAccount value p start q true × EveryAccount value p start q true
Weighs value p start q InNone = SomeAccount value p start q false × EveryAccount value p start q false
Weighs value p start q InSome = SomeAccount value p start q true × SomeAccount value p start q false

-- some account of findings has the statement (true), or lacks it (false)
abbrev pub SomeAccountOf : Values → Program → List Finding → ℕ → Bool → Type 0
SomeAccountOf value p findings q x = (s : List Bool) × AccountOf value p findings s × (has s q ≡ x)

-- every account of findings has the statement, or lacks it
abbrev pub EveryAccountOf : Values → Program → List Finding → ℕ → Bool → Type 0
EveryAccountOf value p findings q x = (s : List Bool) → AccountOf value p findings s → has s q ≡ x

-- what is told of a statement over the accounts of findings
abbrev pub WeighsFor : Values → Program → List Finding → ℕ → Weighing → Type 0
WeighsFor value p findings q NoAccount = NoAccountOf value p findings
WeighsFor value p findings q InEvery = SomeAccountOf value p findings q true × EveryAccountOf value p findings q true
WeighsFor value p findings q InNone = SomeAccountOf value p findings q false × EveryAccountOf value p findings q false
WeighsFor value p findings q InSome = SomeAccountOf value p findings q true × SomeAccountOf value p findings q false

-- whether what is told means that some account has the statement
abbrev pub some_has : Weighing → Bool
some_has NoAccount = false
some_has InEvery = true
some_has InNone = false
some_has InSome = true

-- and whether it means that some account lacks it
abbrev pub some_lacks : Weighing → Bool
some_lacks NoAccount = false
some_lacks InEvery = false
some_lacks InNone = true
some_lacks InSome = true

-- by its mark, no row that extends the marking has statement q (true), or lacks it (false); past the last statement, every row lacks it
abbrev pub Excluded : List Mark → ℕ → Bool → Type 0
Excluded m q x = (at m q ≡ marked (not x)) ⊎ ((length m ≤ q) × (x ≡ true))
