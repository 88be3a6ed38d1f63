-- A report from no findings, as the calls of a sheet give it, and its text.
use Rattle.std.proofs.Common.{◌≡◌, ℕ, ◌≤◌, true, List, [], ◌∷◌, ◌++◌, length, take, drop, nat_eq, nat_le, Ok, Err, Result, refl, sym, ap, ◌∙◌, subst}
use Rattle.format.proofs.Verdicts.{clean}
use Rattle.format.specs.Check.{accepted, counts_of, faults, none}
use Rattle.format.specs.Faults.{verdict}
use Rattle.format.specs.declared.check.Counts.{Counts}
use Rattle.inspection.proofs.Worked.{accounted, none_lacking}
use Rattle.inspection.specs.Inspection.{ShowsAccount, house_kinds}
use Rattle.kinds.specs.Lacking.{lacking}
use Rattle.lines.specs.Reports.{Written}
use Rattle.refusal.specs.declared.Fault.{Fault}
use Rattle.reporting.specs.Reporting.{ByFaults, Reported, TextTo, Told, TwoRulesReported, report_faults}
use Rattle.semantics.specs.Families.{house}
use Rattle.sheet.specs.Outcomes.{FirstOr, Reports, reporting_faults}
use Rattle.notation.specs.Accounts.{account_text}
use Rattle.solver.specs.Accounts.{marks_of}
use Rattle.std.proofs.lemmas.Bool.{false≢true, eq-eqb, le-leb}
use Rattle.std.proofs.lemmas.List.{append-nil, take_at}
use Rattle.table.proofs.Example.{example}
use Rattle.table.specs.Contents.{contents, program}
use Rattle.table.specs.TwoRules.{two_rules}

-- what is so of an answer, and what follows from it
first_so : {X : Type 0} (fs : List Fault) (P Q : X → Type 0) (r : Result X Fault) → ((x : X) → P x → Q x) → FirstOr fs P r → FirstOr fs Q r
first_so [] P Q (Ok x) h p = h x p
first_so [] P Q (Err e) h p = absurd p
first_so (f ∷ fs) P Q r h p = p

module _ (b : List ℕ) where
  -- bytes without a fault are accepted
  accepted_clean : (u : Counts) → Ok u ≡ verdict (faults b) (counts_of b) → accepted b ≡ true
  unfolding accepted
  accepted_clean u h = ap none (clean (faults b) (counts_of b) u (sym h))

  -- of a table that is opened, with its own number of statements and room, only the kinds are left to refuse
  only_kinds : (n : ℕ) (out : List ℕ) → accepted b ≡ true → n ≡ length (contents b).names → 4620 ≤ length out → reporting_faults house_kinds b n out ≡ lacking house_kinds b
  only_kinds n out a e l =
      let same : nat_eq (length (contents b).names) n ≡ true = eq-eqb (length (contents b).names) n (sym e) in
      let room : nat_le 4620 (length out) ≡ true = le-leb 4620 (length out) l in
      rw (a, same, room) (append-nil (lacking house_kinds b))

  -- what the sheet reports is what is told of the bytes
  pub told : (u : Counts) (n : ℕ) (out after : List ℕ) (r : Result ℕ Fault) → Ok u ≡ verdict (faults b) (counts_of b) → n ≡ length (contents b).names → 4620 ≤ length out
      → FirstOr (reporting_faults house_kinds b n out) (Reports house (program (contents b)) (contents b).names [] out after) r → Told b out after r
  told u n out after r h e l o =
      let kinds : report_faults b ≡ lacking house_kinds b = ap (λ fs. fs ++ lacking house_kinds b) (clean (faults b) (counts_of b) u (sym h)) in
      subst (λ fs. FirstOr fs (TextTo b out after) r) (only_kinds n out (accepted_clean u h) e l ∙ sym kinds)
      (first_so (reporting_faults house_kinds b n out) _ (TextTo b out after) r shown o)
    where
      -- what is written is the text of an account
      shown : (k : ℕ) → Reports house (program (contents b)) (contents b).names [] out after k → TextTo b out after k
      shown k (account, s, w) = (account_text (contents b).names (marks_of account), record { account = account; sought = s; shown = refl }, w)

  -- what is written is the text
  written_text : (text out after : List ℕ) (k : ℕ) → Written text out after k → take k after ≡ text
  written_text text out after k w = ap (take k) w.bytes ∙ take_at text (drop (length text) out) k (sym w.end)

  -- the bytes that are told of are a report
  pub told_reported : (out after : List ℕ) (k : ℕ) → Told b out after (Ok k) → Reported b (take k after)
  told_reported out after k = by (report_faults b)
    where
      by : (fs : List Fault) → FirstOr fs (TextTo b out after) (Ok k) → ByFaults fs b (take k after)
      by [] (text, s, w) = subst (ShowsAccount b) (sym (written_text text out after k w)) s
      by (f ∷ fs) h = cc

none_empty : (fs : List Fault) → none fs ≡ true → fs ≡ []
none_empty [] e = refl
none_empty (f ∷ fs) e = absurd (false≢true e)

no_faults : report_faults two_rules ≡ []
unfolding accepted
no_faults = ap (λ fs. fs ++ lacking house_kinds two_rules) (none_empty (faults two_rules) example.passes) ∙ none_lacking

pub two_rules_reported : TwoRulesReported
two_rules_reported out r = accounted out (subst (λ fs. ByFaults fs two_rules out) no_faults r)
