-- What is so of every ledger, ledgers of some visits, and the numbers of what a sheet refuses.
use Rattle.std.specs.Prelude.{◌≡◌, ℕ, ◌≤◌, true, false, List, [], ◌∷◌, length, map}
use Rattle.refusal.specs.Refusals.{seen}
use Rattle.refusal.specs.declared.Layer.TheVariants.{Family, Sheet}
use Rattle.refusal.specs.declared.Refusal.TheVariants.{FindingStands, LackingKind, NoFinding, PartTooShort, ReportTooShort, SheetFull, StatementsDiffer, TableUnopened, UnknownStatement}
use Rattle.semantics.specs.declared.Finding.{Finding}
use Rattle.sheet.specs.Ledger.{are_apart, ledger}
use Rattle.sheet.specs.declared.visits.Visit.{Visit}
use Rattle.sheet.specs.declared.visits.Visit.TheVariants.{Draw, Enter, Seek, Suppose, Weigh, Withdraw}
use Rattle.std.specs.List.{range_with_len}

-- at most 64 findings stand, each of one of the statements, and no two of the same
pub record Stands (n : ℕ) (fs : List Finding) : Type 0 where
  pub few : length fs ≤ 64
  pub apart : are_apart n fs ≡ true

-- so it is of every ledger
abbrev pub LedgersStand : Type 0
LedgersStand = (n : ℕ) (visits : List Visit) → Stands n (ledger n visits)

-- findings that may stand are the ledger of entering them in order
abbrev pub IsLedger : ℕ → List Finding → Type 0
IsLedger n fs = ledger n (map Enter fs) ≡ fs

abbrev pub present : ℕ → Finding
present q = record { statement = q; present = true }

abbrev pub absent : ℕ → Finding
absent q = record { statement = q; present = false }

-- of two statements, unless another number is given
pub record LedgerExamples : Type 0 where
  pub begun : ledger 2 [] ≡ []
  pub entered : ledger 2 (Enter (present 0) ∷ Enter (absent 1) ∷ []) ≡ present 0 ∷ absent 1 ∷ []
  pub unknown : ledger 2 (Enter (present 2) ∷ []) ≡ []
  pub twice : ledger 2 (Enter (present 0) ∷ Enter (absent 0) ∷ []) ≡ present 0 ∷ []
  pub withdrawn : ledger 2 (Enter (present 0) ∷ Enter (absent 1) ∷ Withdraw ∷ []) ≡ present 0 ∷ []
  pub bare : ledger 2 (Withdraw ∷ Enter (present 1) ∷ []) ≡ present 1 ∷ []
  pub turned : ledger 2 (Enter (present 0) ∷ Withdraw ∷ Enter (absent 0) ∷ []) ≡ absent 0 ∷ []
  pub asked : ledger 2 (Enter (present 0) ∷ Draw ∷ Seek ∷ Weigh 7 ∷ Suppose (absent 1) ∷ Suppose (absent 0) ∷ []) ≡ present 0 ∷ []
  pub full : ledger 65 (map (λ q. Enter (present q)) (range_with_len 0 65)) ≡ map present (range_with_len 0 64)

-- the numbers and the layers of what a call on a sheet can be refused by
pub record SheetNumbers : Type 0 where
  pub unopened : seen TableUnopened ≡ (24, Sheet)
  pub differ : seen StatementsDiffer ≡ (25, Sheet)
  pub lacking : seen LackingKind ≡ (26, Family)
  pub unknown : seen UnknownStatement ≡ (27, Sheet)
  pub stands : seen FindingStands ≡ (28, Sheet)
  pub full : seen SheetFull ≡ (29, Sheet)
  pub bare : seen NoFinding ≡ (30, Sheet)
  pub short : seen PartTooShort ≡ (31, Sheet)
  pub short_report : seen ReportTooShort ≡ (32, Sheet)
