-- What is kept, after it was put or taken away.
use Rattle.std.proofs.Common.{◌≡◌, ℕ, Bool, List, length, Option, Some, None, IfSome, replicate, set, ◌⊎◌, sym, ap, ◌∙◌, subst, inl, inr, ⊎_elim, arith}
use Rattle.marking.specs.declared.marking.Marking.{Marking}
use Rattle.search.specs.Nogoods.{kept_at, Excluded, Grown, Known}
use Rattle.semantics.specs.Markings.{Agrees}
use Rattle.semantics.specs.declared.Mark.{Mark}
use Rattle.std.proofs.lemmas.Bool.{cases_eq, cases_lt}
use Rattle.std.proofs.lemmas.List.{get_or-replicate, get_or_past, get_or-set_other, get_or-set_same, length-replicate, length-set}

-- what stands at a place is known
pub known_at : (kept : List (Option Marking)) (k : ℕ) (o : Option Marking) → kept_at kept k ≡ o → IfSome o (Known kept)
known_at kept k None e = tt
known_at kept k (Some n) e = λ s a. record { place = k; nogood = n; stands = e; agrees = a }

same_agrees : (n m : List Mark) (s : List Bool) → ◌≡◌ {A = Option Marking} (Some n) (Some m) → Agrees m s → Agrees n s
same_agrees n m s e a = let f : n ≡ m = cc in subst (λ x. Agrees x s) (sym f) a

not_kept : {X : Type 0} {n : List Mark} → ◌≡◌ {A = Option Marking} None (Some n) → X
not_kept e = cc

pub none_kept : (size : ℕ) (s : List Bool) → Excluded (replicate size None) s → ⊥
none_kept size s x =
    ⊎_elim
    (λ l. not_kept (sym (get_or-replicate size x.place None None l) ∙ x.stands))
    (λ l. not_kept (sym (get_or_past (replicate size None) x.place None (omega (arith, length-replicate {A = Option Marking}))) ∙ x.stands))
    (cases_lt x.place size)

-- what is put at a place is all that is kept more
pub put_grown : (kept : List (Option Marking)) (k : ℕ) (n : List Mark) → Grown kept n (set kept k (Some n))
put_grown kept k n s x =
    ⊎_elim
    (λ e. at_place (ap (kept_at (set kept k (Some n))) (sym e) ∙ x.stands))
    (λ d. inr (record { place = x.place; nogood = x.nogood; stands = sym (get_or-set_other kept k x.place (Some n) None d) ∙ x.stands; agrees = x.agrees }))
    (cases_eq x.place k)
  where
    at_place : kept_at (set kept k (Some n)) k ≡ Some x.nogood → Agrees n s ⊎ Excluded kept s
    at_place e =
        ⊎_elim
        (λ l. inl (same_agrees n x.nogood s (sym (get_or-set_same kept k (Some n) None l) ∙ e) x.agrees))
        (λ l. not_kept (sym (get_or_past (set kept k (Some n)) k None (omega (arith, length-set {A = Option Marking}))) ∙ e))
        (cases_lt k (length kept))
