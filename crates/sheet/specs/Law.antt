-- The law of a visit: what it is answered and what it leaves, whatever visits led to the findings that stand.
use Rattle.std.specs.Prelude.{◌≡◌, ℕ, List, [], ◌∷◌, ◌++◌, Option, Ok, Err, Result}
use Rattle.refusal.specs.declared.Fault.{Fault}
use Rattle.semantics.specs.Families.{Values}
use Rattle.semantics.specs.declared.Finding.{Finding}
use Rattle.sheet.specs.Ledger.{ledger}
use Rattle.sheet.specs.Outcomes.{DrawOutcome, Enters, SeekOutcome, SupposeOutcome, WeighOutcome, Withdraws}
use Rattle.sheet.specs.declared.visits.Answer.{Answer}
use Rattle.sheet.specs.declared.visits.Answer.TheVariants.{Drawn, Entered, Sought, Weighed, Withdrawn}
use Rattle.sheet.specs.declared.visits.Drawing.{Drawing}
use Rattle.sheet.specs.declared.visits.Visit.{Visit}
use Rattle.sheet.specs.declared.visits.Visit.TheVariants.{Draw, Enter, Seek, Suppose, Weigh, Withdraw}
use Rattle.solver.specs.declared.weighing.Weighing.{Weighing}

-- a call's result, as the answer to a visit
abbrev pub answer_of : {X : Type 0} → (X → Answer) → Result X Fault → Result Answer Fault
answer_of g (Ok x) = Ok (g x)
answer_of g (Err e) = Err e

-- on a table of these bytes, under a family of so many kinds with these values, and a sheet of n statements
module _ (kinds : ℕ) (value : Values) (b : List ℕ) (n : ℕ) where
  -- what a visit is answered, and what its part becomes, where these findings stand: what the call of that
  -- name comes to
  abbrev pub Answered : List Finding → Visit → List ℕ → List ℕ → Result Answer Fault → Type 0
  Answered fs (Enter f) part after a =
      (r : Result (Unit {0}) Fault) × Enters n fs f.statement r × (a ≡ answer_of (λ _. Entered) r) × (after ≡ part)
  Answered fs Withdraw part after a =
      (r : Result Finding Fault) × Withdraws fs r × (a ≡ answer_of Withdrawn r) × (after ≡ part)
  Answered fs Draw part after a =
      (r : Result Drawing Fault) × DrawOutcome kinds value b n fs part after r × (a ≡ answer_of Drawn r)
  Answered fs Seek part after a =
      (r : Result (Option ℕ) Fault) × SeekOutcome kinds value b n fs part after r × (a ≡ answer_of Sought r)
  Answered fs (Weigh q) part after a =
      (r : Result Weighing Fault) × WeighOutcome kinds value b n fs q r × (a ≡ answer_of Weighed r) × (after ≡ part)
  Answered fs (Suppose f) part after a =
      (r : Result (Option ℕ) Fault) × SupposeOutcome kinds value b n fs f part after r × (a ≡ answer_of Sought r)

  -- the sheet holds the findings `before`, a visit is made, and then it holds `now`: if `before` is the ledger of any
  -- visits, the answer and the part are as that ledger demands, and `now` is the ledger of those visits and this one
  abbrev pub Law : List Finding → List Finding → Visit → List ℕ → List ℕ → Result Answer Fault → Type 0
  Law before now v part after a =
      (visits : List Visit)
      → before ≡ ledger n visits
      → Answered (ledger n visits) v part after a × (now ≡ ledger n (visits ++ v ∷ []))

-- entering and withdrawing ask for no table and no family and write to no part: the law holds under all
abbrev pub LawOfAll : ℕ → List Finding → List Finding → Visit → Result Answer Fault → Type 0
LawOfAll n before now v a = (kinds : ℕ) (value : Values) (b : List ℕ) → Law kinds value b n before now v [] [] a
