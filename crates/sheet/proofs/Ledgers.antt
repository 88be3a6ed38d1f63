-- Ledgers of visits, one after another, and what stands on a sheet.
use Rattle.std.proofs.Common.{◌≡◌, ℕ, ◌-◌, ◌<◌, ◌≤◌, Bool, true, false, List, [], ◌∷◌, ◌++◌, length, map, drop, nat_lt, Result, Ok, refl, sym, ap, ◌∙◌, subst, append_assoc, arith}
use Rattle.format.specs.Faults.{unless, verdict, when}
use Rattle.refusal.specs.declared.Fault.{Fault}
use Rattle.refusal.specs.declared.Refusal.TheVariants.{FindingStands, SheetFull, UnknownStatement}
use Rattle.semantics.specs.declared.Finding.{Finding}
use Rattle.sheet.proofs.Apart.{apart_before, apart_entered, entered_last, enterable}
use Rattle.semantics.specs.Families.{Values}
use Rattle.sheet.specs.Law.{Answered, Law}
use Rattle.sheet.specs.declared.visits.Answer.{Answer}
use Rattle.sheet.specs.Ledger.{after, after_all, are_apart, entering_faults, if_none, is_listed, ledger, without_last}
use Rattle.sheet.specs.Theorems.{IsLedger, LedgerExamples, LedgersStand, Stands}
use Rattle.sheet.specs.declared.visits.Visit.{Visit}
use Rattle.sheet.specs.declared.visits.Visit.TheVariants.{Draw, Enter, Seek, Suppose, Weigh, Withdraw}
use Rattle.std.proofs.lemmas.Bool.{lt-ltb, ltb-true}
use Rattle.std.proofs.lemmas.List.{append-nil, length-append, length-take, take-append-drop}

module _ (n : ℕ) where
  -- visits after visits
  pub after_both : (vs ws : List Visit) (fs : List Finding) → after_all n (vs ++ ws) fs ≡ after_all n ws (after_all n vs fs)
  after_both [] ws fs = refl
  after_both (v ∷ vs) ws fs = after_both vs ws (after n v fs)

  -- one visit more
  pub ledger_more : (visits : List Visit) (v : Visit) → ledger n (visits ++ v ∷ []) ≡ after n v (ledger n visits)
  ledger_more visits v = after_both visits (v ∷ []) []

-- what is answered where the findings of a sheet stand is answered where the ledger that they are does
pub lawful : (kinds : ℕ) (value : Values) (b : List ℕ) (n : ℕ) (before now : List Finding) (v : Visit) (part new : List ℕ) (a : Result Answer Fault) → Answered kinds value b n before v part new a → now ≡ after n v before → Law kinds value b n before now v part new a
lawful kinds value b n before now v part new a h e visits l =
    (subst (λ fs. Answered kinds value b n fs v part new a) l h, e ∙ ap (after n v) l ∙ sym (ledger_more n visits v))

-- nothing is against a finding of another statement where there is room
none_against : (n : ℕ) (fs : List Finding) (q : ℕ) → nat_lt q n ≡ true → is_listed fs q ≡ false → length fs < 64 → entering_faults n fs q ≡ []
none_against n fs q l e r =
    let room : nat_lt (length fs) 64 ≡ true = lt-ltb (length fs) 64 r in
    let tests : (a b c : Bool) → a ≡ true → b ≡ false → c ≡ true → unless a UnknownStatement q ++ (when b FindingStands 0 ++ unless c SheetFull 0) ≡ [] = λ a b c f g h. rw (f, g, h) refl in
    tests (nat_lt q n) (is_listed fs q) (nat_lt (length fs) 64) l e room

-- what stands after a visit may stand
stands_after : (n : ℕ) (v : Visit) (fs : List Finding) → Stands n fs → Stands n (after n v fs)
stands_after n (Enter f) fs s = by_faults (entering_faults n fs f.statement) refl
  where
    by_faults : (es : List Fault) → entering_faults n fs f.statement ≡ es → Stands n (if_none es (fs ++ f ∷ []) fs)
    by_faults [] e =
        let clear : verdict (entering_faults n fs f.statement) (tt {0}) ≡ Ok (tt {0}) = ap (λ es. verdict es (tt {0})) e in
        let room = ltb-true (length fs) 64 (enterable n fs f.statement (tt {0}) clear).2 in
        record { few = omega (arith, room, length-append fs (f ∷ [])); apart = apart_entered n fs f (tt {0}) s.apart clear }
    by_faults (d ∷ ds) e = s
stands_after n Withdraw fs s = record {
  few = omega (arith, s.few, length-take (length fs - 1) fs);
  apart = apart_before n (without_last fs) (drop (length fs - 1) fs) (ap (are_apart n) (take-append-drop (length fs - 1) fs) ∙ s.apart);
}
stands_after n Draw fs s = s
stands_after n Seek fs s = s
stands_after n (Weigh q) fs s = s
stands_after n (Suppose f) fs s = s

pub ledgers_stand : LedgersStand
ledgers_stand n visits = from visits [] (record { few = omega arith; apart = refl })
  where
    from : (vs : List Visit) (fs : List Finding) → Stands n fs → Stands n (after_all n vs fs)
    from [] fs s = s
    from (v ∷ vs) fs s = from vs (after n v fs) (stands_after n v fs s)

-- findings that may stand are the ledger of entering them in order
pub is_ledger : (n : ℕ) (fs : List Finding) → Stands n fs → IsLedger n fs
is_ledger n fs s = from [] fs s.few s.apart
  where
    from : (gs fs : List Finding) → length (gs ++ fs) ≤ 64 → are_apart n (gs ++ fs) ≡ true → after_all n (map Enter fs) gs ≡ gs ++ fs
    from gs [] l a = sym (append-nil gs)
    from gs (f ∷ fs) l a =
        let first : are_apart n (gs ++ f ∷ []) ≡ true = apart_before n (gs ++ f ∷ []) fs (ap (are_apart n) (append_assoc gs (f ∷ []) fs) ∙ a) in
        let t = entered_last n gs f first in
        let clear = none_against n gs f.statement t.0 t.1 (omega (arith, l, length-append gs (f ∷ fs))) in
        ap (λ es. after_all n (map Enter fs) (if_none es (gs ++ f ∷ []) gs)) clear
        ∙ from (gs ++ f ∷ []) fs (omega (arith, l, ap length (append_assoc gs (f ∷ []) fs))) (ap (are_apart n) (append_assoc gs (f ∷ []) fs) ∙ a)
        ∙ append_assoc gs (f ∷ []) fs

pub ledger_examples : LedgerExamples
ledger_examples = record {
  begun = refl;
  entered = refl;
  unknown = refl;
  twice = refl;
  withdrawn = refl;
  bare = refl;
  turned = refl;
  asked = refl;
  full = refl;
}
