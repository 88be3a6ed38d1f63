-- A table as people read it, what its rules force by themselves under the house family, and their earliest account.
use Rattle.std.specs.Prelude.{◌≡◌, ℕ, Bool, true, false, List, [], ◌∷◌, ◌++◌, Some, None, codes, Option}
use Rattle.drawing.specs.Drawings.{Draws, KeepsAccounts}
use Rattle.format.specs.Check.{accepted}
use Rattle.kinds.specs.Lacking.{lacking}
use Rattle.marking.specs.declared.marking.Marking.{Marking}
use Rattle.notation.specs.Accounts.{account_text}
use Rattle.notation.specs.Marks.{marks_text}
use Rattle.notation.specs.Shown.{fault_text, shown}
use Rattle.refusal.specs.declared.Fault.{Fault}
use Rattle.semantics.specs.Families.{house}
use Rattle.solver.specs.Accounts.{SeeksFor, marks_of}
use Rattle.solver.specs.declared.account.Account.{Account}
use Rattle.table.specs.Contents.{contents, program}

-- what is known of each statement, or that there is a clash
abbrev pub drawing_text : List (List ℕ) → Option Marking → List ℕ
drawing_text names (Some m) = marks_text names m
drawing_text names None = codes "clash\n"

-- the text is that of the drawing from no findings; a statement of which it says in or out is so in every account
pub record ShowsDrawing (b text : List ℕ) : Type 0 where
  pub drawing : Option Marking
  pub drawn : Draws house (program (contents b)) [] drawing
  pub accounts : KeepsAccounts house (program (contents b)) [] drawing
  pub shown : text ≡ drawing_text (contents b).names drawing

-- the text is that of the earliest account with no findings, or says that there is none
pub record ShowsAccount (b text : List ℕ) : Type 0 where
  pub account : Option Account
  pub sought : SeeksFor house (program (contents b)) [] account
  pub shown : text ≡ account_text (contents b).names (marks_of account)

-- what the rules force, and then the account
abbrev pub ShowsAnswers : List ℕ → List ℕ → Type 0
ShowsAnswers b text = (forced account : List ℕ) × ShowsDrawing b forced × ShowsAccount b account × (text ≡ forced ++ account)

-- the first kind that is lacking, or the answers
abbrev pub KindsThenAnswers : List Fault → List ℕ → List ℕ → Type 0
KindsThenAnswers [] b text = ShowsAnswers b text
KindsThenAnswers (f ∷ fs) b text = text ≡ fault_text f

-- how many kinds the house family has
abbrev pub house_kinds : ℕ
house_kinds = 4

-- what is said of a table after its rules
abbrev pub Said : List ℕ → List ℕ → Type 0
Said b text = KindsThenAnswers (lacking house_kinds b) b text

-- of a table that is accepted, its rules and then what is said of it; of other bytes, why they are refused
abbrev pub InspectedIf : Bool → List ℕ → List ℕ → Type 0
InspectedIf true b out = (text : List ℕ) × Said b text × (out ≡ shown b ++ text)
InspectedIf false b out = out ≡ shown b

abbrev pub Inspected : List ℕ → List ℕ → Type 0
Inspected b out = InspectedIf (accepted b) b out
