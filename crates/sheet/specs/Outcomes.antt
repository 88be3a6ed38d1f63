-- What each call comes to where some findings stand: which fault is given, and otherwise what is answered and written.
use Rattle.std.specs.Prelude.{◌≡◌, ℕ, Bool, true, false, List, [], ◌∷◌, ◌++◌, map, length, drop, nat_eq, nat_le, nat_lt, Some, None, Option, Err, Result, IsOkAnd, OnErr}
use Rattle.drawing.specs.Drawings.{TheDrawing}
use Rattle.format.specs.Check.{accepted}
use Rattle.format.specs.Faults.{unless, verdict}
use Rattle.kinds.specs.Lacking.{lacking}
use Rattle.refusal.specs.declared.Fault.{Fault}
use Rattle.refusal.specs.declared.Refusal.TheVariants.{PartTooShort, ReportTooShort, StatementsDiffer, TableUnopened, UnknownStatement}
use Rattle.semantics.specs.AnswerSets.{Account as AccountOf, Earliest, NoAccount, Supports}
use Rattle.semantics.specs.Families.{Values}
use Rattle.semantics.specs.Lists.{Among}
use Rattle.semantics.specs.Markings.{Clash as NoDrawing, at, marked, noted}
use Rattle.semantics.specs.Programs.{Program, Rule}
use Rattle.semantics.specs.Rows.{has, how_many}
use Rattle.semantics.specs.declared.Finding.{Finding}
use Rattle.semantics.specs.declared.Mark.{Mark}
use Rattle.semantics.specs.declared.Mark.TheVariants.{Open, In, Out}
use Rattle.sheet.specs.Ledger.{entering_faults, withdrawing_faults, without_last}
use Rattle.sheet.specs.declared.visits.Drawing.{Drawing}
use Rattle.sheet.specs.declared.visits.Drawing.TheVariants.{Clash, Settled}
use Rattle.lines.specs.Reports.{Written}
use Rattle.notation.specs.Accounts.{account_text}
use Rattle.solver.specs.Accounts.{SeeksFor, WeighsFor, marks_of}
use Rattle.solver.specs.Support.{StandsOn, row_read, support_of}
use Rattle.solver.specs.declared.account.Account.{Account}
use Rattle.solver.specs.declared.support.Support.{Support}
use Rattle.solver.specs.declared.weighing.Weighing.{Weighing}
use Rattle.table.specs.Contents.{contents, program}

-- the first fault is given; where there is none, an answer of which P is so
abbrev pub FirstOr : {X : Type 0} → List Fault → (X → Type 0) → Result X Fault → Type 0
FirstOr [] P r = IsOkAnd r P
FirstOr (e ∷ es) P r = r ≡ Err e

-- the byte that is written for a mark
abbrev pub byte_of : Mark → ℕ
byte_of Open = 0
byte_of In = 1
byte_of Out = 2

-- a part after these marks are written to it, one byte a statement: what is behind them stays
abbrev pub written : List Mark → List ℕ → List ℕ
written m part = map byte_of m ++ drop (length m) part

-- a part with these marks for n statements, each of a row's statements in and all others out
abbrev pub row_written : List Bool → List ℕ → List ℕ
row_written s part = written (map marked s) part

-- entering: only whether it is refused
abbrev pub Enters : ℕ → List Finding → ℕ → Result (Unit {0}) Fault → Type 0
Enters n fs q r = r ≡ verdict (entering_faults n fs q) tt

-- withdrawing: the last finding is given back
abbrev pub Withdraws : List Finding → Result Finding Fault → Type 0
Withdraws fs r = FirstOr (withdrawing_faults fs) (λ f. fs ≡ without_last fs ++ f ∷ []) r

-- the drawing is written: the one settled marking that steps reach from the findings. What it marks in, every account
-- has, and what it marks out, none
pub record DrawnTo (value : Values) (p : Program) (fs : List Finding) (part after : List ℕ) : Type 0 where
  pub marks : List Mark
  pub long : length marks ≡ p.statements
  pub drawing : TheDrawing value p.rules (noted p fs) marks
  pub every_has : (q : ℕ) → at marks q ≡ In → (s : List Bool) → AccountOf value p fs s → has s q ≡ true
  pub none_has : (q : ℕ) → at marks q ≡ Out → (s : List Bool) → AccountOf value p fs s → has s q ≡ false
  pub bytes : after ≡ written marks part

-- there is a clash, and nothing is written: steps reach no settled marking, and there is no account
pub record Clashes (value : Values) (p : Program) (fs : List Finding) (part after : List ℕ) : Type 0 where
  pub no_drawing : NoDrawing value p.rules (noted p fs)
  pub no_account : NoAccount value p fs
  pub bytes : after ≡ part

abbrev pub Draws : Values → Program → List Finding → List ℕ → List ℕ → Drawing → Type 0
Draws value p fs part after Settled = DrawnTo value p fs part after
Draws value p fs part after Clash = Clashes value p fs part after

-- the earliest account is written, with so many statements in, each supported by a rule
pub record FoundTo (value : Values) (p : Program) (fs : List Finding) (part after : List ℕ) (many : ℕ) : Type 0 where
  pub row : List Bool
  pub earliest : Earliest value p fs row
  pub counted : many ≡ how_many row
  pub supported : (q : ℕ) → has row q ≡ true → (r : Rule) × Among r p.rules × Supports value row q r
  pub bytes : after ≡ row_written row part

-- there is none, and nothing is written
pub record NoneTo (value : Values) (p : Program) (fs : List Finding) (part after : List ℕ) : Type 0 where
  pub no_account : NoAccount value p fs
  pub bytes : after ≡ part

abbrev pub Seeks : Values → Program → List Finding → List ℕ → List ℕ → Option ℕ → Type 0
Seeks value p fs part after (Some many) = FoundTo value p fs part after many
Seeks value p fs part after None = NoneTo value p fs part after

-- the earliest account is written as text, or that there is none, and the length of the text is given
abbrev pub Reports : Values → Program → List (List ℕ) → List Finding → List ℕ → List ℕ → ℕ → Type 0
Reports value p names fs out after n =
    (account : Option Account)
    × SeeksFor value p fs account
    × Written (account_text names (marks_of account)) out after n

-- a refusal leaves the part as it was
abbrev pub Stays : {X : Type 0} → List ℕ → List ℕ → Result X Fault → Type 0
Stays part after r = OnErr r (after ≡ part)

-- the part must have a byte for each of n statements: 31
abbrev pub part_faults : ℕ → List ℕ → List Fault
part_faults n part = unless (nat_le n (length part)) PartTooShort 0

-- a table of these bytes and a family of so many kinds, asked from a sheet of n statements
module _ (kinds : ℕ) (b : List ℕ) (n : ℕ) where
  -- why nothing at all is asked of them: 24, 25 and 26
  abbrev pub table_faults : List Fault
  table_faults =
      unless (accepted b) TableUnopened 0
      ++ (unless (nat_eq (length (contents b).names) n) StatementsDiffer 0
      ++ lacking kinds b)

  -- why nothing is written to a part
  abbrev pub writing_faults : List ℕ → List Fault
  writing_faults part = table_faults ++ part_faults n part

  -- why nothing is reported in a part: these, and 32
  abbrev pub reporting_faults : List ℕ → List Fault
  reporting_faults out = table_faults ++ unless (nat_le 4620 (length out)) ReportTooShort 0

  -- why statement q is not weighed: these, and 27
  abbrev pub weighing_faults : ℕ → List Fault
  weighing_faults q = table_faults ++ unless (nat_lt q n) UnknownStatement q

  -- why it is not told on what statement q stands in a row: these, and 31
  abbrev pub why_faults : ℕ → List ℕ → List Fault
  why_faults q row = weighing_faults q ++ part_faults n row

  -- why a finding of statement q is not supposed where these stand
  abbrev pub supposing_faults : List Finding → ℕ → List ℕ → List Fault
  supposing_faults fs q part = (table_faults ++ entering_faults n fs q) ++ part_faults n part

-- on that table under that family, with these values
module _ (kinds : ℕ) (value : Values) (b : List ℕ) (n : ℕ) where
  -- it is told on what statement q stands in the row that bytes stand for, whatever stands on the sheet
  abbrev pub WhyOutcome : ℕ → List ℕ → Result Support Fault → Type 0
  WhyOutcome q row r = FirstOr (why_faults kinds b n q row) (StandsOn value (program (contents b)) (row_read n row) q) r

  -- the same, as a function of the bytes
  abbrev pub why_answer : ℕ → List ℕ → Result Support Fault
  why_answer q row = verdict (why_faults kinds b n q row) (support_of value (program (contents b)) (row_read n row) q)

-- on that table under that family, with these values, where these findings stand on the sheet
module _ (kinds : ℕ) (value : Values) (b : List ℕ) (n : ℕ) (fs : List Finding) where
  abbrev pub DrawOutcome : List ℕ → List ℕ → Result Drawing Fault → Type 0
  DrawOutcome part after r =
      FirstOr (writing_faults kinds b n part) (Draws value (program (contents b)) fs part after) r
      × Stays part after r

  abbrev pub SeekOutcome : List ℕ → List ℕ → Result (Option ℕ) Fault → Type 0
  SeekOutcome part after r =
      FirstOr (writing_faults kinds b n part) (Seeks value (program (contents b)) fs part after) r
      × Stays part after r

  abbrev pub WeighOutcome : ℕ → Result Weighing Fault → Type 0
  WeighOutcome q r = FirstOr (weighing_faults kinds b n q) (WeighsFor value (program (contents b)) fs q) r

  -- what seeking comes to with one finding more
  abbrev pub SupposeOutcome : Finding → List ℕ → List ℕ → Result (Option ℕ) Fault → Type 0
  SupposeOutcome f part after r =
      FirstOr (supposing_faults kinds b n fs f.statement part) (Seeks value (program (contents b)) (fs ++ f ∷ []) part after) r
      × Stays part after r

  abbrev pub ReportOutcome : List ℕ → List ℕ → Result ℕ Fault → Type 0
  ReportOutcome out after r =
      FirstOr (reporting_faults kinds b n out) (Reports value (program (contents b)) (contents b).names fs out after) r
      × Stays out after r
