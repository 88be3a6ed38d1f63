-- A row that does not fit is judged so by a nogood: by one that is known, or by the row itself.
use Rattle.std.proofs.Common.{◌≡◌, Bool, true, false, List, length, Some, None, Option, unwrap_or, subst, sym}
use Rattle.std.specs.Prelude.{IfSome}
use Rattle.marking.specs.declared.marking.Marking.{Marking}
use Rattle.search.specs.Nogoods.{Judged, Nogood}
use Rattle.search.specs.declared.problem.Judgement.{Judgement}
use Rattle.search.specs.declared.problem.Judgement.TheVariants.{Fails}
use Rattle.semantics.proofs.FullMarkings.{only_row}
use Rattle.semantics.specs.FullMarkings.{Full, row_of}
use Rattle.std.specs.Bool.{then_some}

module _ (fits : List Bool → Type 0) where
  -- a nogood that is given only where something is so
  then_nogood : (m : Marking) (b : Bool) → Nogood fits m → IfSome (then_some b m) (Nogood fits)
  then_nogood m true h = h
  then_nogood m false h = tt

  pub nogood_then : (m : Marking) (b : Bool) → Nogood fits m → (r : Option Marking) → r ≡ then_some b m → IfSome r (Nogood fits)
  nogood_then m b h r e = subst (λ o. IfSome o (Nogood fits)) (sym e) (then_nogood m b h)

  module _ (m : Marking) (full : Full m) (long : (s : List Bool) → fits s → length s ≡ length m) (no : fits (row_of m) → ⊥) where
    -- no other row agrees with a full marking
    row_nogood : Nogood fits m
    row_nogood s f a = no (subst fits (only_row m s full (record { long = long s f; agrees = a })) f)

    pub row_fails : Judged fits (row_of m) (Fails m)
    row_fails = (no, row_nogood)

    fails_by : (reason : Option Marking) → IfSome reason (Nogood fits) → Nogood fits (unwrap_or reason m)
    fails_by (Some n) h = h
    fails_by None h = row_nogood

    pub judged_by : (reason : Option Marking) → IfSome reason (Nogood fits) → (j : Judgement) → j ≡ Fails (unwrap_or reason m) → Judged fits (row_of m) j
    judged_by reason h j e = subst (Judged fits (row_of m)) (sym e) (no, fails_by reason h)
