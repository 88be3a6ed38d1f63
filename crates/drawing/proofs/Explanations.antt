-- The one rule that is left for a statement wants its body and the rest of its head.
use Rattle.std.proofs.Common.{◌≡◌, ℕ, Bool, true, false, List, length, get_or, Some, None, sym, subst, ⊎_elim}
use Rattle.drawing.proofs.Deriving.{wanted_stays}
use Rattle.drawing.specs.Applying.{EachOther, IsMarked, Other}
use Rattle.drawing.specs.Deriving.{Consistent, Wanted}
use Rattle.drawing.specs.Passing.{Explained}
use Rattle.drawing.specs.Supports.{OneSupport}
use Rattle.semantics.proofs.Lists.{among_nth, nth_below, nth_is, nth_same}
use Rattle.semantics.specs.Families.{Values}
use Rattle.semantics.specs.Lists.{Among, Nth}
use Rattle.semantics.specs.Markings.{Below, OneLeft, Refuted, at, chooses, explains, literals, unsupported}
use Rattle.semantics.specs.Programs.{Program, Rule}
use Rattle.semantics.specs.declared.Mark.{Mark}
use Rattle.semantics.specs.declared.Mark.TheVariants.{In}
use Rattle.table.proofs.Tails.{each_among, each_place}
use Rattle.table.specs.Contents.{Contents, program}
use Rattle.table.specs.View.{ShowsRule, no_rule}
use Rattle.table.specs.declared.table.RuleView.{RuleView}

module _ (value : Values) (p : Program) (m : List Mark) (q i : ℕ) (h : OneSupport value p.rules (length p.rules) m q i) (e : at m q ≡ In) where
  all_refuted : Refuted value m h.rule → (r : Rule) → Among r p.rules → Among q r.head → Refuted value m r
  all_refuted f r a k =
      let n = among_nth p.rules r a in
      ⊎_elim
      (λ j. subst (Refuted value m) (nth_same p.rules i h.rule r h.place (subst (λ z. Nth p.rules z r) j n.1)) f)
      (λ g. g)
      (h.others n.0 r (nth_below p.rules n.0 r n.1) n.1 k)

  -- unless the marking is inconsistent, the rule is the one left
  one_left : Consistent value p m → OneLeft value p.rules m q i h.rule
  one_left c = record {
    place = h.place;
    heads = h.heads;
    standing = λ f. c.agreed q false e (unsupported q (all_refuted f));
    others = λ j o a k. h.others j o (nth_below p.rules j o a) a k;
  }

  body_wanted : (o : ℕ) (x : Bool) → Among o (literals h.rule x) → Wanted value p m o x
  body_wanted o x k c = explains q i h.rule o x e (one_left c) k

  head_wanted : (o : ℕ) → Among o h.rule.head → (o ≡ q → ⊥) → Wanted value p m o false
  head_wanted o k d c = chooses q i h.rule o e (one_left c) k d

-- The same over the places of a table, whose rule i is shown by a view.
module _ (value : Values) (t : Contents) (m : List Mark) (q i : ℕ) (v : RuleView) (shows : ShowsRule t (get_or t.rules i no_rule) v) where
  abbrev rule : Rule
  rule = get_or t.rules i no_rule

  abbrev pub PositiveRun : (ℕ → Type 0) → Type 0
  PositiveRun P = EachOther P t.literals v.positive.first v.positive.end None

  abbrev pub NegativeRun : (ℕ → Type 0) → Type 0
  NegativeRun P = EachOther P t.literals v.negative.first v.negative.end None

  abbrev pub HeadRun : (ℕ → Type 0) → Type 0
  HeadRun P = EachOther P t.literals v.head.first v.head.end (Some q)

  -- what is wanted stays so after more marks
  module _ (h : OneSupport value t.rules (length t.rules) m q i) (e : at m q ≡ In) (n : List Mark) (b : Below m n) where
    same : h.rule ≡ rule
    same = nth_is t.rules i h.rule no_rule h.place

    literal_wanted : (x : Bool) (o : ℕ) → Among o (literals rule x) → Wanted value (program t) n o x
    literal_wanted x o a = wanted_stays value (program t) m n b o x (body_wanted value (program t) m q i h e o x (subst (λ g. Among o (literals g x)) (sym same) a))

    pub positives_wanted : PositiveRun (λ o. Wanted value (program t) n o true)
    positives_wanted k f l d = each_place t.literals rule.positive v.positive 0 (λ o. Wanted value (program t) n o true) shows.positive (literal_wanted true) k f l

    pub negatives_wanted : NegativeRun (λ o. Wanted value (program t) n o false)
    negatives_wanted k f l d = each_place t.literals rule.negative v.negative 0 (λ o. Wanted value (program t) n o false) shows.negative (literal_wanted false) k f l

    pub heads_wanted : HeadRun (λ o. Wanted value (program t) n o false)
    heads_wanted = each_place t.literals rule.head v.head 0 (λ o. Other (Some q) o → Wanted value (program t) n o false) shows.head
        (λ o a d. wanted_stays value (program t) m n b o false (head_wanted value (program t) m q i h e o (subst (λ g. Among o g.head) (sym same) a) d))

  -- with all three runs marked, the rule explains its statement
  pub explained : (PositiveRun (IsMarked m true) × NegativeRun (IsMarked m false)) × HeadRun (IsMarked m false) → Explained m rule q
  explained ((p, n), h) = record { body = body; head = each_among t.literals rule.head v.head 0 (λ o. Other (Some q) o → IsMarked m false o) shows.head h }
    where
      body : (o : ℕ) (x : Bool) → Among o (literals rule x) → IsMarked m x o
      body o true a = each_among t.literals rule.positive v.positive 0 (IsMarked m true) shows.positive (λ k f l. p k f l tt) o a
      body o false a = each_among t.literals rule.negative v.negative 0 (IsMarked m false) shows.negative (λ k f l. n k f l tt) o a
