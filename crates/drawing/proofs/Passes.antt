-- The pass over the rules and the pass over the statements, one more at a time.
use Rattle.std.proofs.Common.{◌≡◌, ℕ, ◌+◌, ◌<◌, true, ◌⊎◌, List, length, get_or, is_err, Ok, Err, Result, sym, ◌∙◌, subst, inl, inr, ⊎_elim, arith}
use Rattle.drawing.proofs.Applying.{applied_on, applied_weaker}
use Rattle.drawing.proofs.Deriving.{derived_between, derived_on}
use Rattle.drawing.proofs.Supporting.{added_to, among_or_not, length_added, not_added_to, standing_more, support_above, support_more, support_passed}
use Rattle.drawing.specs.Applying.{Applied}
use Rattle.drawing.specs.Deriving.{Derived, Failed}
use Rattle.drawing.specs.Passing.{RulePassed, StatementPassed}
use Rattle.drawing.specs.Supports.{Standing, SupportIs, added, supported_by}
use Rattle.drawing.specs.Sweeps.{AllStanding, Counted, CountedMore, RulesApplied, RulesDone}
use Rattle.drawing.specs.declared.forcing.Clash.{Clash}
use Rattle.drawing.specs.declared.supports.Support.{Support}
use Rattle.semantics.proofs.Lists.{nth_at}
use Rattle.semantics.specs.Families.{Values}
use Rattle.semantics.specs.Lists.{Among, Nth}
use Rattle.semantics.specs.Markings.{Refuted}
use Rattle.semantics.specs.Programs.{Program, Rule}
use Rattle.semantics.specs.declared.Mark.{Mark}
use Rattle.std.proofs.lemmas.Bool.{cases_lt, false≢true}
use Rattle.table.specs.View.{no_rule}

-- rule i is counted, or is refuted and need not be
module _ (value : Values) (rules : List Rule) (i : ℕ) (m : List Mark) (by : List Support) (l : i < length rules) where
  abbrev rule : Rule
  rule = get_or rules i no_rule

  here : Nth rules i rule
  here = nth_at rules i no_rule l

  pub counted_refuted : Refuted value m rule → CountedMore value rules i m by by
  counted_refuted f = record { counted = λ c q k. support_passed value rules i m rule here q (supported_by by q) (λ a. f) (c q k); standing = λ c s. s }

  module _ (f : Refuted value m rule → ⊥) (q : ℕ) (k : q < length by) where
    pub counted_at : Among q rule.head ⊎ (Among q rule.head → ⊥) → SupportIs value rules i m q (supported_by by q) → SupportIs value rules (i + 1) m q (supported_by (added by rule.head i) q)
    counted_at (inl a) c = rw (added_to by i q k rule.head a) (support_more value rules i m rule here q (supported_by by q) a c)
    counted_at (inr n) c = rw (not_added_to by rule.head i q n) (support_passed value rules i m rule here q (supported_by by q) (λ a. absurd (n a)) c)

    pub standing_at : Among q rule.head ⊎ (Among q rule.head → ⊥) → SupportIs value rules i m q (supported_by by q) → Standing value rules m q (supported_by by q) → Standing value rules m q (supported_by (added by rule.head i) q)
    standing_at (inl a) c s = rw (added_to by i q k rule.head a) (standing_more value rules i m rule here q (supported_by by q) a f c s)
    standing_at (inr n) c s = rw (not_added_to by rule.head i q n) s

  pub counted_standing : (after : List Support) → (Refuted value m rule → ⊥) → after ≡ added by rule.head i → CountedMore value rules i m by after
  counted_standing after f e = rw e (record {
    counted = λ c q k. counted_at f q (long q k) (among_or_not q rule.head) (c q (long q k));
    standing = λ c s q k. standing_at f q (long q k) (among_or_not q rule.head) (c q (long q k)) (s q (long q k));
  })
    where
      long : (q : ℕ) → q < length (added by rule.head i) → q < length by
      long q k = omega (arith, length_added by rule.head i)

-- one rule more of the pass
pub rules_next : (value : Values) (p : Program) (i : ℕ) (m n k : List Mark) (by after : List Support) → RulesApplied value p i m n by → Derived value p n k → (k ≡ n → RulePassed value n (get_or p.rules i no_rule)) → CountedMore value p.rules i n by after → RulesApplied value p (i + 1) m k after
rules_next value p i m n k by after h d r c = record {
  derived = derived_on value p m n k h.derived d;
  counted = λ q l. support_above value p.rules (i + 1) n k q (supported_by after q) d.adds (c.counted h.counted q l);
  passed = λ e j l.
      let f = same e in
      ⊎_elim
      (λ (b : j < i). h.passed f j b)
      (λ b. let g : i ≡ j = omega arith in subst (λ z. RulePassed value m (get_or p.rules z no_rule)) g (subst (λ z. RulePassed value z (get_or p.rules i no_rule)) f (r (e ∙ sym f))))
      (cases_lt j i);
  standing = λ e. let f = same e in subst (λ z. AllStanding value p.rules z after) f (c.standing h.counted (subst (λ z. AllStanding value p.rules z by) (sym f) (h.standing f)));
}
  where
    same : k ≡ m → n ≡ m
    same = derived_between value p m n k h.derived d

pub rules_failed : (value : Values) (p : Program) (m n : List Mark) (by : List Support) (r : Result (Unit {0}) Clash) → is_err r ≡ true → Failed value p m → RulesDone value p m n by r
rules_failed value p m n by (Ok _) e f = absurd (false≢true e)
rules_failed value p m n by (Err _) e f = f

module _ (value : Values) (p : Program) (by : List Support) (m n : List Mark) where
  abbrev rule_count : ℕ
  rule_count = length p.rules

  -- statement q, after those before it
  module _ (q : ℕ) (s : Support) (e : s ≡ supported_by by q) (l : q < length by) where
    abbrev PassedTo : ℕ → List Mark → Type 0
    PassedTo k i = AllStanding value p.rules i by → (o : ℕ) → o < k → StatementPassed value p.rules i o

    pub support_there : Counted value p.rules rule_count m by → Derived value p m n → SupportIs value p.rules rule_count n q s
    support_there c d = subst (SupportIs value p.rules rule_count n q) (sym e) (support_above value p.rules rule_count m n q (supported_by by q) d.adds (c q l))

    pub statements_next : (after : List Mark) (r : Result (Unit {0}) Clash) → Derived value p m n → (n ≡ m → PassedTo q m) → Applied value p n after r (Standing value p.rules n q s → StatementPassed value p.rules n q) → Applied value p m after r (PassedTo (q + 1) m)
    statements_next after r d h a =
        applied_weaker value p m after _ _ r both (applied_on value p m n after (PassedTo q m) (λ i. Standing value p.rules i q s → StatementPassed value p.rules i q) r d h a)
      where
        both : PassedTo q m × (Standing value p.rules m q s → StatementPassed value p.rules m q) → PassedTo (q + 1) m
        both (b, c) t o k =
            ⊎_elim
            (λ (i : o < q). b t o i)
            (λ i. let f : q ≡ o = omega arith in subst (StatementPassed value p.rules m) f (c (subst (Standing value p.rules m q) (sym e) (t q l))))
            (cases_lt o q)
