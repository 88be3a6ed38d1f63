-- Findings of different statements: with one more, without the last, and as a marking.
use Rattle.std.proofs.Common.{◌≡◌, ℕ, ◌<◌, Bool, true, false, not, ◌||◌, List, [], ◌∷◌, ◌++◌, length, ◌==◌, nat_lt, if◌then◌else◌, subst, refl, sym, ap, ◌∙◌, inl, inr, Ok}
use Rattle.format.specs.Faults.{unless, verdict, when}
use Rattle.refusal.specs.declared.Refusal.{Refusal}
use Rattle.semantics.proofs.Lists.{any_none}
use Rattle.semantics.specs.Lists.{Among}
use Rattle.semantics.specs.Markings.{found, marked}
use Rattle.semantics.specs.Programs.{Program}
use Rattle.semantics.specs.Theorems.{Noted}
use Rattle.semantics.specs.declared.Finding.{Finding}
use Rattle.sheet.specs.Ledger.{are_apart, entering_faults, is_listed}
use Rattle.std.proofs.lemmas.Bool.{and_from, and_parts, cond-false, cond-true, eq-eqb, eqb-false, false≢true, ltb-true, ne_eqb, not_from_false, or_from, or_parts}
use Rattle.std.proofs.lemmas.List.Folds.{list_any-append}

-- three tests without a fault: the first and the last hold, and the second does not
tests_clean : (a b c : Bool) (u : Unit {0}) (i j k : Refusal) (p q r : ℕ) → verdict (unless a i p ++ (when b j q ++ unless c k r)) (tt {0}) ≡ Ok u → (a ≡ true) × (b ≡ false) × (c ≡ true)
tests_clean true false true u i j k p q r e = (refl, refl, refl)
tests_clean true false false u i j k p q r e = cc
tests_clean true true c u i j k p q r e = cc
tests_clean false b c u i j k p q r e = cc

unlisted_from : (x : Bool) → not x ≡ true → x ≡ false
unlisted_from true e = absurd (false≢true e)
unlisted_from false e = refl

module _ (n : ℕ) where
  -- what is not refused is of a statement that is there, of which no finding stands, and there is room
  pub enterable : (fs : List Finding) (q : ℕ) (u : Unit {0}) → verdict (entering_faults n fs q) (tt {0}) ≡ Ok u → (nat_lt q n ≡ true) × (is_listed fs q ≡ false) × (nat_lt (length fs) 64 ≡ true)
  enterable fs q u e = tests_clean (nat_lt q n) (is_listed fs q) (nat_lt (length fs) 64) u _ _ _ _ _ _ e

  differs : (p q : ℕ) → (p == q) ≡ false → (q == p) ≡ false
  differs p q e = ne_eqb q p (λ t. eqb-false p q e (sym t))

  -- a finding of another statement can be added
  pub apart_more : (fs : List Finding) (f : Finding) → are_apart n fs ≡ true → nat_lt f.statement n ≡ true → is_listed fs f.statement ≡ false → are_apart n (fs ++ f ∷ []) ≡ true
  apart_more [] f a l e = and_from (nat_lt f.statement n) _ l refl
  apart_more (g ∷ gs) f a l e =
      let p = and_parts (nat_lt g.statement n) _ a in
      let r = and_parts (not (is_listed gs g.statement)) _ p.1 in
      let o = or_parts (g.statement == f.statement) (is_listed gs f.statement) e in
      let unlisted : is_listed (gs ++ f ∷ []) g.statement ≡ false =
      list_any-append (λ h. h.statement == g.statement) gs (f ∷ [])
      ∙ or_from (is_listed gs g.statement) ((f.statement == g.statement) || false) (unlisted_from (is_listed gs g.statement) r.0) (or_from (f.statement == g.statement) false (differs g.statement f.statement o.0) refl) in
      and_from (nat_lt g.statement n) _ p.0 (and_from (not (is_listed (gs ++ f ∷ []) g.statement)) _ (not_from_false (is_listed (gs ++ f ∷ []) g.statement) unlisted) (apart_more gs f r.1 l o.1))

  -- what comes first of different findings is so too
  pub apart_before : (fs gs : List Finding) → are_apart n (fs ++ gs) ≡ true → are_apart n fs ≡ true
  apart_before [] gs a = refl
  apart_before (f ∷ fs) gs a =
      let p = and_parts (nat_lt f.statement n) _ a in
      let r = and_parts (not (is_listed (fs ++ gs) f.statement)) _ p.1 in
      let o = or_parts (is_listed fs f.statement) (is_listed gs f.statement) (sym (list_any-append (λ h. h.statement == f.statement) fs gs) ∙ unlisted_from _ r.0) in
      and_from (nat_lt f.statement n) _ p.0 (and_from (not (is_listed fs f.statement)) _ (not_from_false (is_listed fs f.statement) o.0) (apart_before fs gs r.1))

  -- what is not refused can be added
  pub apart_entered : (fs : List Finding) (f : Finding) (u : Unit {0}) → are_apart n fs ≡ true → verdict (entering_faults n fs f.statement) (tt {0}) ≡ Ok u → are_apart n (fs ++ f ∷ []) ≡ true
  apart_entered fs f u a h = let t = enterable fs f.statement u h in apart_more fs f a t.0 t.1

-- findings of different statements of a program say what they say
module _ (p : Program) where
  inside_apart : (fs : List Finding) → are_apart p.statements fs ≡ true → (f : Finding) → Among f fs → f.statement < p.statements
  inside_apart [] a f m = absurd m
  inside_apart (g ∷ gs) a f (inl e) =
      let l : g.statement < p.statements = ltb-true g.statement p.statements (and_parts (nat_lt g.statement p.statements) _ a).0 in
      subst (λ (h : Finding). h.statement < p.statements) e l
  inside_apart (g ∷ gs) a f (inr m) =
      inside_apart gs (and_parts (not (is_listed gs g.statement)) _ (and_parts (nat_lt g.statement p.statements) _ a).1).1 f m

  found_apart : (fs : List Finding) → are_apart p.statements fs ≡ true → (f : Finding) → Among f fs → found fs f.statement ≡ marked f.present
  found_apart [] a f m = absurd m
  found_apart (g ∷ gs) a f (inl e) = subst (λ (h : Finding). (if g.statement == h.statement then marked g.present else found gs h.statement) ≡ marked h.present) e (cond-true _ _ _ (eq-eqb g.statement g.statement refl))
  found_apart (g ∷ gs) a f (inr m) =
      let r = and_parts (not (is_listed gs g.statement)) _ (and_parts (nat_lt g.statement p.statements) _ a).1 in
      let other : (f.statement == g.statement) ≡ false = any_none (λ h. h.statement == g.statement) gs f (unlisted_from _ r.0) m in
      cond-false _ _ _ (differs p.statements f.statement g.statement other) ∙ found_apart gs r.1 f m

  pub noted_apart : (n : ℕ) (fs : List Finding) → p.statements ≡ n → are_apart n fs ≡ true → Noted p fs
  noted_apart n fs e a0 =
      let a : are_apart p.statements fs ≡ true = ap (λ k. are_apart k fs) e ∙ a0 in
      record { inside = inside_apart fs a; single = found_apart fs a }

-- the last of different findings is of a statement that is there, and of which none before it is
pub entered_last : (n : ℕ) (fs : List Finding) (f : Finding) → are_apart n (fs ++ f ∷ []) ≡ true → (nat_lt f.statement n ≡ true) × (is_listed fs f.statement ≡ false)
entered_last n [] f a = ((and_parts (nat_lt f.statement n) _ a).0, refl)
entered_last n (g ∷ fs) f a =
    let p = and_parts (nat_lt g.statement n) _ a in
    let r = and_parts (not (is_listed (fs ++ f ∷ []) g.statement)) _ p.1 in
    let t = entered_last n fs f r.1 in
    let o = or_parts (is_listed fs g.statement) (is_listed (f ∷ []) g.statement) (sym (list_any-append (λ h. h.statement == g.statement) fs (f ∷ [])) ∙ unlisted_from _ r.0) in
    let q = or_parts (f.statement == g.statement) false o.1 in
    (t.0, or_from (g.statement == f.statement) (is_listed fs f.statement) (differs n f.statement g.statement q.0) t.1)
