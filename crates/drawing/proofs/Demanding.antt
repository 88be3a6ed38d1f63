-- The demand of a rule is rightful; and rules and statements that are all passed leave nothing to do.
use Rattle.std.proofs.Common.{◌≡◌, ℕ, ◌<◌, Bool, true, false, not, List, length, sym, refl, ap, ◌∙◌, subst, inl, inr, ⊎_elim}
use Rattle.drawing.specs.Applying.{IsMarked}
use Rattle.drawing.specs.Demands.{Demanded, demand_of}
use Rattle.drawing.specs.Passing.{RulePassed, StatementPassed}
use Rattle.judging.proofs.BodyVerdicts.{as_literal, of_literal}
use Rattle.judging.specs.Bodies.{BodyIs}
use Rattle.judging.specs.Literals.{IsOpen, LiteralsAre, TwoOpen, as_literals}
use Rattle.judging.specs.declared.bodies.Body.{Body}
use Rattle.judging.specs.declared.bodies.Body.TheVariants.{Certain as IsCertain, ButFor, Refuted as IsRefuted, Neither}
use Rattle.judging.specs.declared.literals.Literal.{Literal}
use Rattle.judging.specs.declared.literals.Literals.{Literals}
use Rattle.judging.specs.declared.literals.Literals.TheVariants.{Met, OneOpen, SeveralOpen, Against}
use Rattle.semantics.proofs.Marks.{both_marked, cases_mark, marked_inside, open_unmarked}
use Rattle.semantics.specs.Families.{Values}
use Rattle.semantics.specs.Lists.{Among}
use Rattle.semantics.specs.Markings.{Between, BodyCertain, Certain, CertainButFor, Forces, HeadOut, Impossible, OthersOut, Refuted, Settled, at, blocks, chooses, explains, fires, marked, unsupported}
use Rattle.semantics.specs.Programs.{Aggregate, Program, Rule}
use Rattle.semantics.specs.declared.Mark.{Mark}
use Rattle.semantics.specs.declared.Mark.TheVariants.{Open, In}
use Rattle.std.proofs.lemmas.Bool.{both_ways}
use lib.Signed.{≤ℤ_refl}

module _ (value : Values) (m : List Mark) where
  -- no aggregate is both certain and impossible
  certain_possible : (g : Aggregate) → Certain value m g → Impossible value m g → ⊥
  certain_possible g c i =
      let z = c.number in
      let between : Between value m g z.0 = (z.0, z.0, z.1, z.1, ≤ℤ_refl z.0, ≤ℤ_refl z.0) in
      both_ways _ (i z.0 between) (c.within z.0 between)

  -- a refuted body is not certain, and not certain but for an open literal
  certain_standing : (r : Rule) → BodyCertain value m r → Refuted value m r → ⊥
  certain_standing r c (inl (q, x, i, e)) = both_marked x (c.literal q x i) e
  certain_standing r c (inr (g, i, h)) = certain_possible g (c.aggregate g i) h

  but_for_standing : (r : Rule) (q : ℕ) (x : Bool) → CertainButFor value m r q x → at m q ≡ Open → Refuted value m r → ⊥
  but_for_standing r q x c o (inl (p, y, i, e)) = ⊎_elim (λ k. open_unmarked (not y) (sym o ∙ ap (at m) (sym k.0) ∙ e)) (λ k. both_marked y k e) (c.literal p y i)
  but_for_standing r q x c o (inr (g, i, h)) = certain_possible g (c.aggregate g i) h

  -- a body that is certain but for a literal that is met is certain
  but_for_met : (r : Rule) (q : ℕ) (x : Bool) → CertainButFor value m r q x → at m q ≡ marked x → BodyCertain value m r
  but_for_met r q x c e = record {
    literal = λ p y i. ⊎_elim (λ k. ap (at m) k.0 ∙ e ∙ ap marked (sym k.1)) (λ k. k) (c.literal p y i);
    aggregate = c.aggregate;
  }

  -- a rule is passed where it is not broken, fires nothing more, and blocks nothing that is open
  passed_from : (r : Rule) → (HeadOut m r → BodyCertain value m r → ⊥) → (BodyCertain value m r → (q : ℕ) → Among q r.head → OthersOut m r q → IsMarked m true q) → (HeadOut m r → (q : ℕ) (x : Bool) → CertainButFor value m r q x → at m q ≡ Open → q < length m → ⊥) → RulePassed value m r
  passed_from r w f b = record {
    whole = w;
    fires = f;
    blocks = λ h q x c l. ⊎_elim (λ o. absurd (b h q x c o l)) (⊎_elim (λ e. absurd (w h (but_for_met r q x c e))) (λ e. e)) (cases_mark (at m q) x);
  }

  -- a rule whose body is not certain, nor certain but for an open literal
  passed_uncertain : (r : Rule) → (BodyCertain value m r → ⊥) → ((q : ℕ) (x : Bool) → CertainButFor value m r q x → at m q ≡ Open → ⊥) → RulePassed value m r
  passed_uncertain r n b = passed_from r (λ h c. n c) (λ c. absurd (n c)) (λ h q x c o l. b q x c o)

  pub refuted_passed : (r : Rule) → Refuted value m r → RulePassed value m r
  refuted_passed r f = passed_uncertain r (λ c. certain_standing r c f) (λ q x c o. but_for_standing r q x c o f)

  pub body_standing : (r : Rule) (b : Body) → (b ≡ IsRefuted → ⊥) → BodyIs value m r b → Refuted value m r → ⊥
  body_standing r IsCertain n h = h.1
  body_standing r (ButFor l) n h = h.2
  body_standing r IsRefuted n h = λ f. n refl
  body_standing r Neither n h = h.standing

  module _ (r : Rule) where
    abbrev head_literals : List Literal
    head_literals = as_literals false r.head

    in_head : (l : Literal) → Among l head_literals → Among l.statement r.head
    in_head l i = (of_literal false l r.head i).1

    should_be_out : (l : Literal) → Among l head_literals → l.present ≡ false
    should_be_out l i = (of_literal false l r.head i).0

    head_out : LiteralsAre m head_literals Met → HeadOut m r
    head_out h q i = h _ (as_literal false q r.head i)

    -- a head with an open literal is not out
    not_out : (l : Literal) → Among l head_literals → IsOpen m l → HeadOut m r → ⊥
    not_out l i o h = open_unmarked false (sym o ∙ h l.statement (in_head l i))

    -- where all but q are out, an open head statement is q
    only_open : (l : Literal) → Among l head_literals → IsOpen m l → (q : ℕ) → OthersOut m r q → l.statement ≡ q
    only_open l i o q h = ⊎_elim (λ e. e) (λ e. absurd (open_unmarked false (sym o ∙ e))) (h l.statement (in_head l i))

    same_literal : (l o : Literal) → l.statement ≡ o.statement → l.present ≡ o.present → l ≡ o
    same_literal l o e f = ap (λ z. record { statement = z; present = l.present }) e ∙ ap (λ z. record { statement = o.statement; present = z }) f

    against_in : LiteralsAre m head_literals Against → (q : ℕ) × Among q r.head × (at m q ≡ In)
    against_in (l, i, e) = (l.statement, in_head l i, e ∙ ap (λ x. marked (not x)) (should_be_out l i))

    -- with a head statement in, the rule is passed
    passed_in : (q : ℕ) → Among q r.head → at m q ≡ In → RulePassed value m r
    passed_in q i e = passed_from r
        (λ h c. both_marked true e (h q i))
        (λ c p j o l. ⊎_elim (λ k. ap (at m) (sym k) ∙ e) (λ k. both_marked true e k) (o q i))
        (λ h p x c o l. both_marked true e (h q i))

    others_out : (l : Literal) → LiteralsAre m head_literals (OneOpen l) → OthersOut m r l.statement
    others_out l (i, o, h) q j = ⊎_elim (λ e. inl (ap (λ z. z.statement) e)) inr (h _ (as_literal false q r.head j))

    -- with all head statements out but for an open one, once that is in
    passed_last : (l : Literal) → Among l head_literals → IsOpen m l → IsMarked m true l.statement → RulePassed value m r
    passed_last l i o t = passed_from r (λ h c. not_out l i o h) (λ c q j k. subst (IsMarked m true) (only_open l i o q k) t) (λ h q x c e k. not_out l i o h)

    -- of two open head statements not all but one are out
    not_both : TwoOpen m head_literals → (q : ℕ) → OthersOut m r q → ⊥
    not_both t q o = t.differ (same_literal t.one t.other
        (only_open t.one t.one_among t.one_open q o ∙ sym (only_open t.other t.other_among t.other_open q o))
        (should_be_out t.one t.one_among ∙ sym (should_be_out t.other t.other_among)))

    -- a body that is certain but for an open literal is not certain, and blocks no other
    module _ (l : Literal) (c : CertainButFor value m r l.statement l.present) (o : IsOpen m l) where
      open_uncertain : BodyCertain value m r → ⊥
      open_uncertain d = open_unmarked l.present (sym o ∙ d.literal l.statement l.present c.one)

      blocked : IsMarked m (not l.present) l.statement → (q : ℕ) (x : Bool) → CertainButFor value m r q x → at m q ≡ Open → q < length m → ⊥
      blocked t q x d e k =
          ⊎_elim
          (λ f. open_unmarked (not l.present) (sym o ∙ t (subst (λ z. z < length m) f.0 k)))
          (λ f. open_unmarked x (sym e ∙ f))
          (c.literal q x d.one)

      -- nor does the rule demand anything while a head statement is open
      passed_open : (k : Literal) → Among k head_literals → IsOpen m k → RulePassed value m r
      passed_open k i e = passed_from r (λ h d. not_out k i e h) (λ d. absurd (open_uncertain d)) (λ h q x d f j. not_out k i e h)

    module _ (p : Program) (a : Among r p.rules) where
      pub demanded : (b : Body) (h : Literals) → BodyIs value m r b → LiteralsAre m head_literals h → Demanded value p m r (demand_of b h)
      demanded IsCertain Met (c, n) h = (r, a, head_out h, c)
      demanded IsCertain (OneOpen l) (c, n) h = (λ d. fires r l.statement a c (in_head l h.0) (others_out l h), λ t. passed_last l h.0 h.1 t)
      demanded IsCertain SeveralOpen (c, n) t = passed_from r (λ h d. not_out t.one t.one_among t.one_open h) (λ d q i o. absurd (not_both t q o)) (λ h q x d o l. not_out t.one t.one_among t.one_open h)
      demanded IsCertain Against (c, n) h = let s = against_in h in passed_in s.0 s.1 s.2
      demanded (ButFor l) Met (c, o, n) h = (λ d. blocks r l.statement l.present a (head_out h) c, λ t. passed_from r (λ k d. open_uncertain l c o d) (λ d. absurd (open_uncertain l c o d)) (λ k. blocked l c o t))
      demanded (ButFor l) (OneOpen k) (c, o, n) h = passed_open l c o k h.0 h.1
      demanded (ButFor l) SeveralOpen (c, o, n) t = passed_open l c o t.one t.one_among t.one_open
      demanded (ButFor l) Against (c, o, n) h = let s = against_in h in passed_in s.0 s.1 s.2
      demanded IsRefuted h f k = refuted_passed r f
      demanded Neither h n k = passed_uncertain r n.uncertain n.but_for_none

-- every rule and every statement is passed: the marking is settled
module _ (value : Values) (rules : List Rule) (m : List Mark) (each_rule : (r : Rule) → Among r rules → RulePassed value m r) (each_statement : (q : ℕ) → q < length m → StatementPassed value rules m q) where
  as_wanted : {q : ℕ} {x : Bool} → Forces value rules m q x → q < length m → at m q ≡ marked x
  as_wanted (fires r q i c j o) l = (each_rule r i).fires c q j o l
  as_wanted (explains p i r q x e o k) l = ((each_statement p (marked_inside m p true e)).explained e i r o).body q x k l
  as_wanted (chooses p i r q e o k d) l = ((each_statement p (marked_inside m p true e)).explained e i r o).head q k d l
  as_wanted (blocks r q x i h c) l = (each_rule r i).blocks h q x c l
  as_wanted (unsupported q h) l = (each_statement q l).supported h l

  pub passed_settled : Settled value rules m
  passed_settled = record {
    whole = λ b. (each_rule b.0 b.1).whole b.2 b.3;
    done = λ q x l o f. open_unmarked x (sym o ∙ as_wanted f l);
    agreed = λ q x e f. both_marked x (as_wanted f (marked_inside m q (not x) e)) e;
  }
