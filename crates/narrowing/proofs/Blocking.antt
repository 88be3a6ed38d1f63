-- From sets of statements to what blocks a rule, or breaks it.
use Rattle.std.proofs.Common.{◌≡◌, ◌==◌, ℕ, ◌+◌, ◌<◌, ◌≤◌, get_or, length, arith, Bool, true, false, List, sym, refl, ap, ◌∙◌, subst, inl, inr, ⊎_elim}
use Rattle.std.proofs.lemmas.Bool.{cases_lt, eqb-true, eq-eqb}
use Rattle.marking.specs.Sets.{contains}
use Rattle.marking.specs.declared.set.Set.{Set}
use Rattle.narrowing.specs.Blocking.{SomeIn, SomeInBut, SomeInOf, SomeLost}
use Rattle.narrowing.specs.Unfounded.{Blocked, NoHelp, Unfounded, heads_other, needs, needs_member, refuted}
use Rattle.judging.specs.Bodies.{SomeImpossible}
use Rattle.rulesets.specs.Rulesets.{IsSet, IsSetOfAll, SetsOf, has_member}
use Rattle.rulesets.specs.declared.ruleset.Ruleset.{Ruleset}
use Rattle.table.specs.Contents.{Contents}
use Rattle.semantics.proofs.Lists.{among_at, among_place, any_from, any_one}
use Rattle.semantics.specs.Families.{Values}
use Rattle.semantics.specs.Lists.{Among}
use Rattle.semantics.specs.Markings.{at}
use Rattle.semantics.specs.Programs.{Aggregate, Rule}
use Rattle.semantics.specs.declared.Mark.{Mark}
use Rattle.semantics.specs.declared.Member.{Member}
use Rattle.table.specs.View.{no_rule}

-- the statements of a set are those of its list
pub of_set : (s : Set) (qs : List ℕ) (q : ℕ) → IsSet s qs → contains s q ≡ true → Among q qs
of_set s qs q is h = let f = any_one (λ p. p == q) qs (sym (is q) ∙ h) in subst (λ p. Among p qs) (eqb-true f.0 q f.2) f.1

pub in_set : (s : Set) (qs : List ℕ) (q : ℕ) → IsSet s qs → Among q qs → contains s q ≡ true
in_set s qs q is i = is q ∙ any_from (λ p. p == q) qs q i (eq-eqb q q refl)

-- the statements of the members of aggregates
pub of_members : (s : Set) (gs : List Aggregate) (q : ℕ) → IsSetOfAll s gs → contains s q ≡ true → (g : Aggregate) × (a : Member) × Among g gs × Among a g.members × (a.statement ≡ q)
of_members s gs q is h =
    let g = any_one (λ g. has_member q g.members) gs (sym (is q) ∙ h) in
    let a = any_one (λ a. a.statement == q) g.0.members g.2 in
    (g.0, a.0, g.1, a.1, eqb-true a.0.statement q a.2)

pub in_members : (s : Set) (gs : List Aggregate) (g : Aggregate) (a : Member) → IsSetOfAll s gs → Among g gs → Among a g.members → contains s a.statement ≡ true
in_members s gs g a is i j = is a.statement ∙ any_from (λ g. has_member a.statement g.members) gs g i (any_from (λ b. b.statement == a.statement) g.members a j (eq-eqb a.statement a.statement refl))

-- each thing that blocks a rule, by the sets of its statements
module _ (value : Values) (m : List Mark) (u : Set) (c : Contents) (r : Rule) (sets : Ruleset) (is : SetsOf c r sets) where
  pub lost_blocks : SomeLost m u sets.positive → Blocked value m (contains u) r
  lost_blocks (q, h, inl out) = refuted (inl (q, true, of_set _ r.positive q is.positive h, out))
  lost_blocks (q, h, inr own) = needs q (of_set _ r.positive q is.positive h) own

  pub unwanted_blocks : SomeIn m sets.negative → Blocked value m (contains u) r
  unwanted_blocks (q, h, k) = refuted (inl (q, false, of_set _ r.negative q is.negative h, k))

  pub other_head_blocks : SomeInBut m u sets.head → Blocked value m (contains u) r
  other_head_blocks (q, h, other, k) = heads_other q (of_set _ r.head q is.head h) other k

  pub own_member_blocks : SomeInOf m u sets.members → Blocked value m (contains u) r
  own_member_blocks (q, h, own, k) = let a = of_members _ r.aggregates q is.members h in needs_member a.0 a.1 a.2 a.3 (ap (contains u) a.4 ∙ own) (ap (at m) a.4 ∙ k)

  -- where none of these is found, only an aggregate can block the rule
  pub only_impossible : (SomeLost m u sets.positive → ⊥) → (SomeIn m sets.negative → ⊥) → (SomeInBut m u sets.head → ⊥) → (SomeInOf m u sets.members → ⊥) → Blocked value m (contains u) r → SomeImpossible value m r.aggregates
  only_impossible a b h k (refuted (inl (q, true, i, f))) = absurd (a (q, in_set _ _ q is.positive i, inl f))
  only_impossible a b h k (refuted (inl (q, false, i, f))) = absurd (b (q, in_set _ _ q is.negative i, f))
  only_impossible a b h k (refuted (inr f)) = f
  only_impossible a b h k (needs q i f) = absurd (a (q, in_set _ _ q is.positive i, inr f))
  only_impossible a b h k (needs_member g n i j f t) = absurd (k (n.statement, in_members _ _ g n is.members i j, f, t))
  only_impossible a b h k (heads_other q i f t) = absurd (h (q, in_set _ _ q is.head i, f, t))

-- the rules before this one are no help, and this one is none
pub one_more_no_help : (value : Values) (m : List Mark) (U : ℕ → Bool) (rule : ℕ → Rule) (i : ℕ) → ((k : ℕ) → k < i → NoHelp value m U (rule k)) → NoHelp value m U (rule i) → (k : ℕ) → k < i + 1 → NoHelp value m U (rule k)
one_more_no_help value m U rule i before here k l =
    ⊎_elim (λ less. before k less) (λ from. let e : i ≡ k = omega arith in subst (λ j. NoHelp value m U (rule j)) e here) (cases_lt k i)

module _ (value : Values) (rules : List Rule) (m : List Mark) (u : Set) where
  -- where the set has a statement that is in, and the rules of every number are no help, it is unfounded
  pub unfounded_from : (n : ℕ) → SomeIn m u → length rules ≤ n → ((i : ℕ) → i < n → NoHelp value m (contains u) (get_or rules i no_rule)) → Unfounded value rules m (contains u)
  unfounded_from n some l each = record {
    some_in = some;
    blocked = λ r q i j c.
        let place = among_place rules r i in
        subst (NoHelp value m (contains u)) (place.2 no_rule) (each place.0 (omega (arith, place.1, l))) q j c;
  }

  -- and where it is unfounded, no rule is any help
  pub unfounded_no_help : (i : ℕ) → i < length rules → Unfounded value rules m (contains u) → NoHelp value m (contains u) (get_or rules i no_rule)
  unfounded_no_help i l f q j c = f.blocked (get_or rules i no_rule) q (among_at rules i no_rule l) j c
