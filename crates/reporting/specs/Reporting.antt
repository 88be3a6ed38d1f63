-- The report of a table's bytes, from no findings under the house family.
use Rattle.std.specs.Prelude.{◌≡◌, ℕ, List, [], ◌∷◌, ◌++◌, codes, Result}
use Rattle.format.specs.Check.{faults}
use Rattle.inspection.specs.Inspection.{ShowsAccount, house_kinds}
use Rattle.kinds.specs.Lacking.{lacking}
use Rattle.lines.specs.Reports.{Written}
use Rattle.notation.specs.Shown.{fault_text}
use Rattle.refusal.specs.declared.Fault.{Fault}
use Rattle.sheet.specs.Outcomes.{FirstOr}
use Rattle.table.specs.TwoRules.{two_rules}

-- why there is no report: the faults of the bytes, and then the kinds that the house family lacks
abbrev pub report_faults : List ℕ → List Fault
report_faults b = faults b ++ lacking house_kinds b

-- the text of the earliest account with no findings, or that there is none, is written, and its length is given
abbrev pub TextTo : List ℕ → List ℕ → List ℕ → ℕ → Type 0
TextTo b old new n = (text : List ℕ) × ShowsAccount b text × Written text old new n

-- so it is, or the first fault is given
abbrev pub Told : List ℕ → List ℕ → List ℕ → Result ℕ Fault → Type 0
Told b old new r = FirstOr (report_faults b) (TextTo b old new) r

-- that text, or the line of the first fault
abbrev pub ByFaults : List Fault → List ℕ → List ℕ → Type 0
ByFaults [] b out = ShowsAccount b out
ByFaults (f ∷ fs) b out = out ≡ fault_text f

abbrev pub Reported : List ℕ → List ℕ → Type 0
Reported b out = ByFaults (report_faults b) b out

-- a table of 76 bytes
abbrev pub TwoRulesReported : Type 0
TwoRulesReported = (out : List ℕ) → Reported two_rules out → out ≡ codes "account 2\nin a\nin b\n"
