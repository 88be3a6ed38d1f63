-- What a chain of checks refuses, and what comes where it does not.
use Rattle.std.proofs.Common.{nat_le, nat_lt, Option, ◌≡◌, ℕ, ◌≤◌, Bool, true, false, List, [], ◌∷◌, ◌++◌, length, nat_eq, IsErrAnd, Ok, Err, Result, refl, sym, ap, ◌∙◌, subst, arith}
use Rattle.format.proofs.Verdicts.{clean, parts}
use Rattle.format.specs.Check.{accepted}
use Rattle.format.specs.Faults.{unless, verdict}
use Rattle.kinds.specs.Lacking.{lacking}
use Rattle.refusal.specs.declared.Fault.{Fault}
use Rattle.refusal.specs.declared.Refusal.{Refusal}
use Rattle.refusal.specs.declared.Refusal.TheVariants.{PartTooShort, ReportTooShort, StatementsDiffer, TableUnopened, UnknownStatement}
use Rattle.sheet.specs.Outcomes.{FirstOr, Reports, Stays, part_faults, reporting_faults, table_faults, weighing_faults, why_faults, writing_faults}
use Rattle.std.proofs.lemmas.Bool.{eqb-true, leb-true}
use Rattle.table.specs.Contents.{contents, program}
use Rattle.lines.specs.Reports.{Reports as Writes}
use Rattle.notation.specs.Accounts.{account_text}
use Rattle.semantics.specs.Families.{Values}
use Rattle.semantics.specs.declared.Finding.{Finding}
use Rattle.solver.specs.Accounts.{SeeksFor, marks_of}
use Rattle.solver.specs.declared.account.Account.{Account}
use Rattle.std.proofs.lemmas.Result.{err_from_is_err_and}

module _ {X : Type 0} (faults : List Fault) (P : X → Type 0) where
  -- a fault of a check is given by what leaves by a `?`, whatever checks come after it
  module _ (r : Result X Fault) (e : Fault) (b : IsErrAnd r (λ y. y ≡ e)) where
    given : r ≡ Err e
    given = let p = err_from_is_err_and {Q = λ y. y ≡ e} r b in p.1 ∙ ap Err p.2

    pub refused : Err e ≡ verdict faults (tt {0}) → FirstOr faults P r
    refused h = first faults h
      where
        first : (es : List Fault) → Err e ≡ verdict es (tt {0}) → FirstOr es P r
        first [] h = cc
        first (d ∷ ds) h = given ∙ ap Err (cc)

    pub refused_early : (more : List Fault) → Err e ≡ verdict faults (tt {0}) → FirstOr (faults ++ more) P r
    refused_early more h = first faults h
      where
        first : (es : List Fault) → Err e ≡ verdict es (tt {0}) → FirstOr (es ++ more) P r
        first [] h = cc
        first (d ∷ ds) h = given ∙ ap Err (cc)

    pub refused_late : (before : List Fault) → Ok (tt {0}) ≡ verdict before (tt {0}) → Err e ≡ verdict faults (tt {0}) → FirstOr (before ++ faults) P r
    refused_late before c h = subst (λ es. FirstOr (es ++ faults) P r) (sym (clean before (tt {0}) (tt {0}) (sym c))) (refused h)

  -- without one, what is so of the answer
  pub answered : (x : X) → Ok (tt {0}) ≡ verdict faults (tt {0}) → P x → FirstOr faults P (Ok x)
  answered x h p = subst (λ es. FirstOr es P (Ok x)) (sym (clean faults (tt {0}) (tt {0}) (sym h))) p

-- what is as it was stays
pub stays : {X : Type 0} (part : List ℕ) (r : Result X Fault) → Stays part part r
stays part (Ok x) = tt
stays part (Err e) = refl

passed : (t : Bool) (r : Refusal) (p : ℕ) → unless t r p ≡ [] → t ≡ true
passed true r p e = refl
passed false r p e = cc

module _ (kinds : ℕ) (b : List ℕ) (n : ℕ) where
  table_same : table_faults kinds b n ≡ [] → length (contents b).names ≡ n
  table_same e =
      let rest = (parts (unless (accepted b) TableUnopened 0) _ e).1 in
      eqb-true (length (contents b).names) n (passed _ StatementsDiffer 0 (parts (unless (nat_eq (length (contents b).names) n) StatementsDiffer 0) (lacking kinds b) rest).0)

  -- a table that is not refused is of as many statements as the sheet
  pub same_statements : (more : List Fault) → Ok (tt {0}) ≡ verdict (table_faults kinds b n ++ more) (tt {0}) → length (contents b).names ≡ n
  same_statements more h = table_same (parts (table_faults kinds b n) more (clean _ (tt {0}) (tt {0}) (sym h))).0

  -- and so where it is not refused to tell on what a statement stands
  pub why_statements : (q : ℕ) (row : List ℕ) → why_faults kinds b n q row ≡ [] → length (contents b).names ≡ n
  why_statements q row e =
      let weighed = (parts (weighing_faults kinds b n q) (part_faults n row) e).0 in
      table_same (parts (table_faults kinds b n) (unless (nat_lt q n) UnknownStatement q) weighed).0

  -- a part that is not refused has a byte for each statement of the table
  pub part_fits : (part : List ℕ) → length (contents b).names ≡ n → Ok (tt {0}) ≡ verdict (part_faults n part) (tt {0}) → length (contents b).names ≤ length part
  part_fits part e h = let l = leb-true n (length part) (passed _ PartTooShort 0 (clean (part_faults n part) (tt {0}) (tt {0}) (sym h))) in omega (arith, e, l)

  pub writing_fits : (part : List ℕ) → Ok (tt {0}) ≡ verdict (writing_faults kinds b n part) (tt {0}) → length (contents b).names ≤ length part
  writing_fits part h =
      let e = parts (table_faults kinds b n) (part_faults n part) (clean _ (tt {0}) (tt {0}) (sym h)) in
      part_fits part (table_same e.0) (ap (λ es. verdict es (tt {0})) (sym e.1))

  -- a report whose part is not refused
  pub reported : (value : Values) (fs : List Finding) (out after : List ℕ) (r : Result ℕ Fault) (account : Option Account)
      → Ok (tt {0}) ≡ verdict (reporting_faults kinds b n out) (tt {0}) → SeeksFor value (program (contents b)) fs account
      → Writes (account_text (contents b).names (marks_of account)) out after r
      → FirstOr (reporting_faults kinds b n out) (Reports value (program (contents b)) (contents b).names fs out after) r × Stays out after r
  reported value fs out after (Ok m) account h s w = (answered (reporting_faults kinds b n out) (Reports value (program (contents b)) (contents b).names fs out after) m h (account, s, w.1), tt)
  reported value fs out after (Err e) account h s w =
      let short = unless (nat_le 4620 (length out)) ReportTooShort 0 in
      let room = leb-true 4620 (length out) (passed _ ReportTooShort 0 (parts (table_faults kinds b n) short (clean (reporting_faults kinds b n out) (tt {0}) (tt {0}) (sym h))).1) in
      absurd (omega (arith, room, w.0))
