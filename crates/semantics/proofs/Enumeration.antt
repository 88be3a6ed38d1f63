-- Accounts by trial of every row: a test that decides what an account is, and what it tells of all accounts.
use Rattle.std.proofs.Common.{◌≡◌, ℕ, zero, suc, Bool, true, false, not, ◌&&◌, ◌||◌, ◌⊎◌, List, [], ◌∷◌, length, Decides, sym, refl, ap, ◌∙◌, subst, inl, inr, ⊎_elim, arith}
use Rattle.std.proofs.lemmas.List.{get_or_past, ext_get_or}
use Rattle.std.proofs.lemmas.Bool.{and_parts, and_from, both_ways, cases_lt, false≢true}
use Rattle.std.proofs.lemmas.Bool.Decides.{same_from_decides, Decides-like, Decides-not, Decides-and, Decides-below_and}
use Rattle.semantics.specs.declared.Finding.{Finding}
use Rattle.semantics.specs.AnswerSets.{obeys, AnswerSet, Account, Earliest, NoAccount}
use Rattle.semantics.specs.Families.{Values}
use Rattle.std.specs.List.{list_all}
use Rattle.semantics.specs.Programs.{Program}
use Rattle.semantics.specs.Rows.{has, Part, ProperPart, Precedes}
use Rattle.semantics.specs.SmallTables.{Sole, InEvery}
use Rattle.semantics.proofs.Decisions.{all_decides, confirms_decides}
use Rattle.semantics.specs.Tests.{confirms}
use Rattle.semantics.proofs.Order.{at_once, later}

-- Tests of truth values.
decides_itself : (x : Bool) → Decides x (x ≡ true)
decides_itself x = (λ e. e, λ e. e)

decides_implies : (x y : Bool) → Decides (not x || y) (x ≡ true → y ≡ true)
decides_implies true y = (λ e _. e, λ h. h refl)
decides_implies false y = (λ _ e. absurd (false≢true e), λ _. refl)

-- Parts of rows.
abbrev every_below : (ℕ → Bool) → ℕ → Bool
every_below f zero = true
every_below f (suc n) = f n && every_below f n

abbrev pub is_part : List Bool → List Bool → Bool
is_part t s = every_below (λ q. not (has t q) || has s q) (length t)

decides_part : (t s : List Bool) → Decides (is_part t s) (Part t s)
decides_part t s =
    Decides-like (is_part t s)
    (λ h q e. ⊎_elim (λ l. h q l e) (λ l. absurd (both_ways (has t q) (get_or_past t q false l) e)) (cases_lt q (length t)))
    (λ h q _. h q)
    (Decides-below_and _ _ (every_below _) (λ q. decides_implies (has t q) (has s q)) refl (λ _. refl) (length t))

-- each part of the other: the same
same_row : (t s : List Bool) → length t ≡ length s → Part t s → Part s t → t ≡ s
same_row t s l p r = ext_get_or false t s l (λ q _. same_from_decides (has t q) (has s q) (p q, r q) (decides_itself (has s q)))

abbrev is_proper_part : List Bool → List Bool → Bool
is_proper_part t s = is_part t s && not (is_part s t)

decides_proper_part : (t s : List Bool) → length t ≡ length s → Decides (is_proper_part t s) (ProperPart t s)
decides_proper_part t s l =
    Decides-like (is_proper_part t s)
    (λ h. record { long = l; part = h.0; differs = λ e. h.1 (subst (Part s) (sym e) (λ q i. i)) })
    (λ h. (h.part, λ r. h.differs (same_row t s l h.part r)))
    (Decides-and _ _ (decides_part t s) (Decides-not _ (decides_part s t)))

-- The order of rows.
-- s is t, or comes before it
abbrev pub not_after : List Bool → List Bool → Bool
not_after [] t = true
not_after (x ∷ s) [] = true
not_after (true ∷ s) (true ∷ t) = not_after s t
not_after (true ∷ s) (false ∷ t) = true
not_after (false ∷ s) (true ∷ t) = false
not_after (false ∷ s) (false ∷ t) = not_after s t

behind_same_mark : (x : Bool) (s t : List Bool) → (t ≡ s) ⊎ Precedes s t → (x ∷ t ≡ x ∷ s) ⊎ Precedes (x ∷ s) (x ∷ t)
behind_same_mark x s t (inl e) = inl (ap (λ r. x ∷ r) e)
behind_same_mark x s t (inr p) = inr (later x s t p)

same_or_before : (s t : List Bool) → length t ≡ length s → not_after s t ≡ true → (t ≡ s) ⊎ Precedes s t
same_or_before [] [] l h = inl refl
same_or_before [] (y ∷ t) l h = absurd (omega arith)
same_or_before (x ∷ s) [] l h = absurd (omega arith)
same_or_before (true ∷ s) (true ∷ t) l h = behind_same_mark true s t (same_or_before s t (omega arith) h)
same_or_before (true ∷ s) (false ∷ t) l h = inr (at_once s t)
same_or_before (false ∷ s) (true ∷ t) l h = absurd (false≢true h)
same_or_before (false ∷ s) (false ∷ t) l h = behind_same_mark false s t (same_or_before s t (omega arith) h)

-- All rows.
-- the test holds of every row of n marks
abbrev pub every_row : ℕ → (List Bool → Bool) → Bool
every_row zero f = f []
every_row (suc n) f = every_row n (λ s. f (true ∷ s)) && every_row n (λ s. f (false ∷ s))

row_passes : (n : ℕ) (f : List Bool → Bool) → every_row n f ≡ true → (s : List Bool) → length s ≡ n → f s ≡ true
row_passes zero f h [] l = h
row_passes zero f h (b ∷ s) l = absurd (omega arith)
row_passes (suc n) f h [] l = absurd (omega arith)
row_passes (suc n) f h (true ∷ s) l = row_passes n _ (and_parts _ _ h).0 s (omega arith)
row_passes (suc n) f h (false ∷ s) l = row_passes n _ (and_parts _ _ h).1 s (omega arith)

rows_pass : (n : ℕ) (f : List Bool → Bool) → ((s : List Bool) → length s ≡ n → f s ≡ true) → every_row n f ≡ true
rows_pass zero f h = h [] refl
rows_pass (suc n) f h = and_from _ _ (rows_pass n _ (λ s l. h (true ∷ s) (ap suc l))) (rows_pass n _ (λ s l. h (false ∷ s) (ap suc l)))

-- Answer sets and accounts.
module _ (value : Values) (p : Program) where
  -- t is a proper part of s that obeys against s
  abbrev is_rival : List Bool → List Bool → Bool
  is_rival s t = is_proper_part t s && obeys value s t p.rules

  decides_no_rival : (s t : List Bool) → length t ≡ length s → Decides (not (is_rival s t)) (ProperPart t s × (obeys value s t p.rules ≡ true) → ⊥)
  decides_no_rival s t l = Decides-not _ (Decides-and _ _ (decides_proper_part t s l) (decides_itself _))

  abbrev is_answer : List Bool → Bool
  is_answer s = obeys value s s p.rules && every_row p.statements (λ t. not (is_rival s t))

  decides_answer : (s : List Bool) → length s ≡ p.statements → Decides (is_answer s) (AnswerSet value p s)
  decides_answer s l =
      Decides-like (is_answer s)
      (λ h. record { long = l; obeyed = h.0; minimal = λ t k o. (decides_no_rival s t k.long).0 (h.1 t (k.long ∙ l)) (k, o) })
      (λ a. (a.obeyed, λ t k. (decides_no_rival s t (k ∙ sym l)).1 (λ h. a.minimal t h.0 h.1)))
      (Decides-and _ _ (decides_itself _) (row_passes p.statements _, rows_pass p.statements _))

abbrev pub is_account : Values → Program → List Finding → List Bool → Bool
is_account value p findings s = is_answer value p s && list_all (confirms s) findings

-- the test holds of every account
abbrev pub every_account : Values → Program → List Finding → (List Bool → Bool) → Bool
every_account value p findings f = every_row p.statements (λ s. not (is_account value p findings s) || f s)

module _ {value : Values} {p : Program} {findings : List Finding} where
  decides_account : (s : List Bool) → length s ≡ p.statements → Decides (is_account value p findings s) (Account value p findings s)
  decides_account s l =
      Decides-like (is_account value p findings s)
      (λ h. record { answer = h.0; fits = h.1 })
      (λ a. (a.answer, a.fits))
      (Decides-and _ _ (decides_answer value p s l) (all_decides _ _ (confirms_decides s) findings))

  account_passes : (f : List Bool → Bool) → every_account value p findings f ≡ true → (s : List Bool) → Account value p findings s → f s ≡ true
  account_passes f h s a =
      let l = a.answer.long in
      (decides_implies (is_account value p findings s) (f s)).0 (row_passes p.statements _ h s l) ((decides_account s l).1 a)

  pub none_by_trial : every_account value p findings (λ s. false) ≡ true → NoAccount value p findings
  none_by_trial h s a = false≢true (account_passes (λ s. false) h s a)

  pub in_every_by_trial : (q : ℕ) → every_account value p findings (λ s. has s q) ≡ true → InEvery value p findings q
  in_every_by_trial q h = account_passes (λ s. has s q) h

  module _ {s : List Bool} (l : length s ≡ p.statements) (h : is_account value p findings s ≡ true) where
    pub account_by_trial : Account value p findings s
    account_by_trial = (decides_account s l).0 h

    pub earliest_by_trial : every_account value p findings (not_after s) ≡ true → Earliest value p findings s
    earliest_by_trial k = record {
      account = account_by_trial;
      others = λ t a d. ⊎_elim (λ e. absurd (d e)) (λ b. b) (same_or_before s t (a.answer.long ∙ sym l) (account_passes (not_after s) k t a));
    }

    pub sole_by_trial : every_account value p findings (λ t. is_part t s && is_part s t) ≡ true → Sole value p findings s
    sole_by_trial k = record {
      account = account_by_trial;
      only = λ t a.
          let both = and_parts _ _ (account_passes (λ t. is_part t s && is_part s t) k t a) in
          same_row t s (a.answer.long ∙ sym l) ((decides_part t s).0 both.0) ((decides_part s t).0 both.1);
    }
