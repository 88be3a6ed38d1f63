-- What is left of a row, and what of it fails a rule.
use Rattle.std.proofs.Common.{◌≡◌, ◌==◌, ◌&&◌, ℕ, ◌<◌, Bool, true, false, not, List, length, sym, refl, ap, ◌∙◌, subst, ⊎_elim, arith}
use Rattle.std.proofs.lemmas.Bool.{and_parts, and_from, both_ways, cases_Bool, eqb-true, eq-eqb, not_from_false, or_cases, or_left, or_right, not-true}
use Rattle.std.proofs.lemmas.List.{ext_get_or, get_or-map, length-map}
use Rattle.rulesets.specs.Rulesets.{has_member}
use Rattle.semantics.proofs.FullMarkings.{has_inside}
use Rattle.semantics.proofs.Lists.{all_at, all_from, any_from, any_one, none_from}
use Rattle.semantics.specs.AnswerSets.{members_met, needs_met}
use Rattle.semantics.specs.Lists.{Among}
use Rattle.semantics.specs.Programs.{Aggregate, Rule}
use Rattle.semantics.specs.Rows.{has, Part, ProperPart}
use Rattle.semantics.specs.declared.Member.{Member}
use Rattle.solver.specs.Smaller.{Meets, RemovesSome, heads, needs, rest}
use Rattle.std.specs.List.{list_any}

-- what is not removed is left
pub rest_has : (removed : List Bool) (q : ℕ) → q < length removed → has (rest removed) q ≡ not (has removed q)
rest_has removed q l = get_or-map not removed q false false l

-- what is removed is not left
pub rest_lacks : (removed : List Bool) (q : ℕ) → has removed q ≡ true → has (rest removed) q ≡ false
rest_lacks removed q h = rest_has removed q (has_inside removed q h) ∙ ap not h

-- a statement among those of a list, by the test for it
pub listed : (q : ℕ) (qs : List ℕ) → list_any (λ p. p == q) qs ≡ true → Among q qs
listed q qs h = let (p, i, e) = any_one (λ p. p == q) qs h in subst (λ o. Among o qs) (eqb-true p q e) i

pub lists : (q : ℕ) (qs : List ℕ) → Among q qs → list_any (λ p. p == q) qs ≡ true
lists q qs i = any_from (λ p. p == q) qs q i (eq-eqb q q refl)

module _ (s t : List Bool) (r : Rule) where
  -- what has all that a rule needs has each statement that it needs, and the other way round
  needed_there : needs_met s t r ≡ true → (q : ℕ) → needs s r q ≡ true → has t q ≡ true
  needed_there met q n = ⊎_elim
      (λ p. all_at (has t) r.positive q (and_parts _ _ met).0 (listed q r.positive p))
      (λ o.
      let both = and_parts (list_any (λ g. has_member q g.members) r.aggregates) (has s q) o in
      let (g, i, m) = any_one (λ g. has_member q g.members) r.aggregates both.0 in
      let (a, j, e) = any_one (λ a. a.statement == q) g.members m in
      let same : a.statement ≡ q = eqb-true a.statement q e in
      let member = all_at _ g.members a (all_at (members_met s t) r.aggregates g (and_parts _ _ met).1 i) j in
      ⊎_elim
      (λ k. absurd (both_ways (has s q) (ap (has s) (sym same) ∙ not-true (has s a.statement) k) both.1))
      (λ k. ap (has t) (sym same) ∙ k)
      (or_cases (not (has s a.statement)) (has t a.statement) member))
      (or_cases (list_any (λ p. p == q) r.positive) (list_any (λ g. has_member q g.members) r.aggregates && has s q) n)

  needs_from : ((q : ℕ) → needs s r q ≡ true → has t q ≡ true) → needs_met s t r ≡ true
  needs_from h = and_from _ _
      (all_from (has t) r.positive (λ q i. h q (or_left (list_any (λ p. p == q) r.positive) (list_any (λ g. has_member q g.members) r.aggregates && has s q) (lists q r.positive i))))
      (all_from (members_met s t) r.aggregates (λ g i. all_from _ g.members (λ a j. ⊎_elim
      (λ k. or_right (not (has s a.statement)) (has t a.statement) (h a.statement (member g a i j k)))
      (λ f. or_left (not (has s a.statement)) (has t a.statement) (not_from_false (has s a.statement) f))
      (cases_Bool (has s a.statement)))))
    where
      member : (g : Aggregate) (a : Member) → Among g r.aggregates → Among a g.members → has s a.statement ≡ true → needs s r a.statement ≡ true
      member g a i j k = or_right (list_any (λ p. p == a.statement) r.positive) (list_any (λ g. has_member a.statement g.members) r.aggregates && has s a.statement)
          (and_from _ _
          (any_from (λ g. has_member a.statement g.members) r.aggregates g i (any_from (λ b. b.statement == a.statement) g.members a j (eq-eqb a.statement a.statement refl)))
          k)

  -- so a rule is failed by what has none of its head, and all that it needs
  pub fails_from : ((q : ℕ) → heads r q ≡ true → has t q ≡ false) → ((q : ℕ) → needs s r q ≡ true → has t q ≡ true) → Meets s t r → ⊥
  fails_from h n meets = both_ways (list_any (has t) r.head) (none_from (has t) r.head (λ q i. h q (lists q r.head i))) (meets (needs_from n))

  -- and met by what has a head statement, or lacks one that is needed
  pub head_meets : (q : ℕ) → heads r q ≡ true → has t q ≡ true → Meets s t r
  head_meets q i h met = any_from (has t) r.head q (listed q r.head i) h

  pub lack_meets : (q : ℕ) → needs s r q ≡ true → has t q ≡ false → Meets s t r
  lack_meets q n f met = absurd (both_ways (has t q) f (needed_there met q n))

  -- and by anything, where it needs one of its head
  pub own_meets : (q : ℕ) → heads r q ≡ true → needs s r q ≡ true → Meets s t r
  own_meets q i n met = head_meets q i (needed_there met q n) met

-- a proper part of s is one that is left where some of s is removed
pub part_differs : (s removed : List Bool) → length removed ≡ length s → Part (rest removed) s → RemovesSome s removed → ProperPart (rest removed) s
part_differs s removed l p (q, h, k) = record {
  long = length-map removed not ∙ l;
  part = p;
  differs = λ e. both_ways (has s q) (sym (ap (λ x. has x q) e) ∙ rest_lacks removed q k) h;
}

-- where none of s is removed, all of it is left
none_removed : (s removed : List Bool) → length removed ≡ length s → Part (rest removed) s → (RemovesSome s removed → ⊥) → rest removed ≡ s
none_removed s removed l p n = ext_get_or false (rest removed) s (length-map removed not ∙ l) (λ q i. same q (omega (arith, i, length-map removed not)))
  where
    same : (q : ℕ) → q < length removed → has (rest removed) q ≡ has s q
    same q i =
        ⊎_elim
        (λ t. ⊎_elim (λ r. absurd (n (q, t, r))) (λ f. rest_has removed q i ∙ ap not f ∙ sym t) (cases_Bool (has removed q)))
        (λ f. ⊎_elim (λ t. absurd (both_ways (has s q) f (p q t))) (λ g. g ∙ sym f) (cases_Bool (has (rest removed) q)))
        (cases_Bool (has s q))

pub differs_some : (s removed : List Bool) → ProperPart (rest removed) s → (RemovesSome s removed → ⊥) → ⊥
differs_some s removed p n = p.differs (none_removed s removed (sym (length-map removed not) ∙ p.long) p.part n)
