-- What the verdict on the kinds says of the aggregates.
use Rattle.std.proofs.Common.{◌≡◌, ℕ, ◌<◌, ◌≤◌, true, ltb, List, [], ◌∷◌, length, is_ok, Ok, Decides, Result, sym, refl, ap, ◌∙◌, le_refl, arith}
use Rattle.format.proofs.Verdicts.{each_clean, each_passed}
use Rattle.format.specs.Faults.{unless, verdict}
use Rattle.kinds.specs.Lacking.{KindsKnown, kind_faults, kind_of, lacking}
use Rattle.refusal.specs.declared.Fault.{Fault}
use Rattle.refusal.specs.declared.Refusal.TheVariants.{LackingKind}
use Rattle.std.proofs.lemmas.Bool.{cond_below, ltb-true}
use Rattle.table.proofs.Clean.{holds}
use Rattle.table.proofs.Places.{kind_placed}
use Rattle.table.specs.Contents.{contents}
use Rattle.table.specs.View.{kind_place}

-- Ok says that there is no fault
none_if_ok : {X : Type 0} (fs : List Fault) (x : X) → is_ok (verdict fs x) ≡ true → fs ≡ []
none_if_ok [] x e = refl
none_if_ok (f ∷ fs) x e = cc

module _ (kinds : ℕ) (b : List ℕ) where
  -- what is demanded of aggregate j, by what the table shows of it, is what the definition asks
  pub demanded : (j : ℕ) {kind n place : ℕ} {r : Result (Unit {0}) Fault} → kind_of (contents b).aggregates j ≡ kind → n ≡ kinds → place ≡ kind_place b j → j < length (contents b).aggregates → r ≡ verdict (unless (ltb kind n) LackingKind place) tt → r ≡ verdict (kind_faults kinds b j) tt
  demanded j k n p l e = let placed = kind_placed b j l in cc

  -- no aggregate has a fault
  pub passed : {i : ℕ} → ((j : ℕ) → j < i → kind_faults kinds b j ≡ []) → length (contents b).aggregates ≤ i → Ok (tt {0}) ≡ verdict (lacking kinds b) tt
  passed none h = each_passed (kind_faults kinds b) _ tt (λ j l. none j (omega arith))

  pub ok_if_known : (r : Result (Unit {0}) Fault) → r ≡ verdict (lacking kinds b) tt → Decides (is_ok r) (KindsKnown kinds (contents b).aggregates)
  ok_if_known r e = (
    λ ok j l. ltb-true _ kinds (holds _ _ _ (each_clean (kind_faults kinds b) _ (none_if_ok _ tt (ap is_ok (sym e) ∙ ok)) j l)),
    λ known. ap is_ok (e ∙ sym (passed (λ j l. sym (cond_below _ kinds [] _ (known j l))) (le_refl _))),
  )
