-- What the support of a statement wants, and when it leaves nothing to do.
use Rattle.std.proofs.Common.{◌≡◌, ℕ, false, List, length, get_or, sym, ap, ◌∙◌, subst, ⊎_elim}
use Rattle.drawing.specs.Applying.{IsMarked}
use Rattle.drawing.specs.Deriving.{Wanted}
use Rattle.drawing.specs.Passing.{Explained, StatementPassed}
use Rattle.drawing.specs.Supports.{OneSupport, Standing, SupportIs, TwoStanding}
use Rattle.drawing.specs.declared.supports.Support.TheVariants.{Unsupported, OneRule}
use Rattle.semantics.proofs.Lists.{among_nth, nth_among, nth_below, nth_is}
use Rattle.semantics.specs.Families.{Values}
use Rattle.semantics.specs.Lists.{Among}
use Rattle.semantics.specs.Markings.{Refuted, at, unsupported}
use Rattle.semantics.specs.Programs.{Program, Rule}
use Rattle.semantics.specs.declared.Mark.{Mark}
use Rattle.semantics.specs.declared.Mark.TheVariants.{In}
use Rattle.table.specs.View.{no_rule}

pub unsupported_wanted : (value : Values) (p : Program) (m : List Mark) (q : ℕ) → SupportIs value p.rules (length p.rules) m q Unsupported → Wanted value p m q false
unsupported_wanted value p m q h c = unsupported q (λ r a k. let n = among_nth p.rules r a in h n.0 r (nth_below p.rules n.0 r n.1) n.1 k)

module _ (value : Values) (rules : List Rule) (m : List Mark) (q : ℕ) where
  abbrev AllRefuted : Type 0
  AllRefuted = (r : Rule) → Among r rules → Among q r.head → Refuted value m r

  -- no rule is left, and the statement is out
  pub none_passed : SupportIs value rules (length rules) m q Unsupported → IsMarked m false q → StatementPassed value rules m q
  none_passed h t = record {
    explained = λ e i r o. absurd (o.standing (h i r (nth_below rules i r o.place) o.place o.heads));
    supported = λ f. t;
  }

  -- one rule is left
  module _ (i : ℕ) (h : OneSupport value rules (length rules) m q i) (s : Standing value rules m q (OneRule i)) where
    still_supported : AllRefuted → ⊥
    still_supported f = s h.rule h.place (f h.rule (nth_among rules i h.rule h.place) h.heads)

    -- and it explains a statement that is in
    pub one_passed : Explained m (get_or rules i no_rule) q → StatementPassed value rules m q
    one_passed x = record {
      explained = λ e j r o.
          ⊎_elim
          (λ k. subst (λ g. Explained m g q) (ap (λ z. get_or rules z no_rule) (sym k) ∙ sym (nth_is rules j r no_rule o.place)) x)
          (λ f. absurd (o.standing f))
          (h.others j r (nth_below rules j r o.place) o.place o.heads);
      supported = λ f. absurd (still_supported f);
    }

    pub one_passed_unless_in : (at m q ≡ In → ⊥) → StatementPassed value rules m q
    one_passed_unless_in n = record { explained = λ e. absurd (n e); supported = λ f. absurd (still_supported f) }

  -- several rules are left
  pub many_passed : TwoStanding value rules m q → StatementPassed value rules m q
  many_passed t = record {
    explained = λ e i r o.
        ⊎_elim
        (λ j. ⊎_elim (λ k. absurd (t.differ (j ∙ sym k))) (λ f. absurd (t.other_standing f)) (o.others t.second t.other t.other_place t.other_heads))
        (λ f. absurd (t.one_standing f))
        (o.others t.first t.one t.one_place t.one_heads);
    supported = λ f. absurd (t.one_standing (f t.one (nth_among rules t.first t.one t.one_place) t.one_heads));
  }
