-- What comes of visits to a sheet, each with an answer and a part of its own.
use Rattle.std.specs.Prelude.{◌≡◌, ℕ, List, map, length, take, Some, Result}
use Rattle.refusal.specs.declared.Fault.{Fault}
use Rattle.semantics.specs.Families.{Values}
use Rattle.semantics.specs.Lists.{Nth}
use Rattle.semantics.specs.declared.Finding.{Finding}
use Rattle.sheet.specs.Law.{Answered}
use Rattle.sheet.specs.Ledger.{ledger}
use Rattle.sheet.specs.Sheets.{standing}
use Rattle.sheet.specs.declared.sheet.Sheet.{Sheet}
use Rattle.sheet.specs.declared.visits.Answer.{Answer}
use Rattle.sheet.specs.declared.visits.Entry.{Entry}
use Rattle.sheet.specs.declared.visits.Visit.{Visit}
use Rattle.table.specs.Contents.{contents}

-- the visit that an entry asks for
abbrev pub visit_of : Entry → Visit
visit_of e = e.visit

-- on a table of these bytes, under a family of so many kinds with these values
module _ (kinds : ℕ) (value : Values) (b : List ℕ) (n : ℕ) where
  -- an entry before and after its visit is made, where these findings stand
  pub record Made (fs : List Finding) (before after : Entry) : Type 0 where
    pub same : after.visit ≡ before.visit
    pub answer : Result Answer Fault
    pub given : after.answer ≡ Some answer
    pub answered : Answered kinds value b n fs before.visit before.part.items after.part.items answer

  -- all visits are made in order: each, at its place, where the ledger of the visits before it stands; and at the end
  -- the sheet holds the ledger of all
  pub record AllMade (before after : List Entry) (sheet : Sheet) : Type 0 where
    pub long : length after ≡ length before
    pub each : (i : ℕ) (e d : Entry) → Nth before i e → Nth after i d → Made (ledger n (map visit_of (take i before))) e d
    pub statements : sheet.statements ≡ n
    pub standing : standing sheet ≡ ledger n (map visit_of before)

-- on a sheet that is begun on the table
abbrev pub Runs : ℕ → Values → List ℕ → List Entry → List Entry → Sheet → Type 0
Runs kinds value b before after sheet = AllMade kinds value b (length (contents b).names) before after sheet
