-- Support from outside, and that no answer set agrees with a marking under which a set of statements is unfounded.
use Rattle.std.proofs.Common.{◌≡◌, ℕ, ◌<◌, Bool, true, false, not, ◌&&◌, List, length, map, sym, ap, ◌∙◌, inl, inr, ⊎_elim, arith}
use Rattle.std.proofs.lemmas.Bool.{both_ways, not-true, not-false, not_from_false, cases_Bool, and_parts, and_from, or_cases, or_parts}
use Rattle.std.proofs.lemmas.List.FromFn.{get_or-map-range_with_len, length-map-range_with_len}
use Rattle.std.specs.List.{list_all, list_any, range_with_len}
use Rattle.narrowing.specs.Unfounded.{SupportsFromOutside, ExternalSupport, Blocked, refuted, needs, needs_member, heads_other, Unfounded, NoAnswer}
use Rattle.semantics.specs.declared.Mark.{Mark}
use Rattle.semantics.specs.declared.Member.{Member}
use Rattle.semantics.specs.AnswerSets.{true_in, counts, members_met, needs_met, obeys_rule, obeys, AnswerSet, BodyTrue}
use Rattle.semantics.specs.Families.{Values}
use Rattle.semantics.specs.Lists.{Among}
use Rattle.semantics.specs.Markings.{Agrees, Broken, Refuted}
use Rattle.semantics.specs.Programs.{Aggregate, Rule, Program}
use Rattle.semantics.specs.Rows.{has, ProperPart}
use Rattle.semantics.proofs.AnswerSets.{head_of_obeyed, needs_of_itself}
use Rattle.semantics.proofs.FullMarkings.{has_inside}
use Rattle.semantics.proofs.Lists.{all_at, all_from, all_fails, any_one, any_none}
use Rattle.semantics.proofs.Sound.{impossible_false, not_broken}

-- what is left of s without U
module _ (s : List Bool) (U : ℕ → Bool) where
  abbrev rest : List Bool
  rest = map (λ q. has s q && not (U q)) (range_with_len 0 (length s))

  rest_long : length rest ≡ length s
  rest_long = length-map-range_with_len _ 0 (length s)

  rest_at : (q : ℕ) → q < length s → has rest q ≡ (has s q && not (U q))
  rest_at q l = get_or-map-range_with_len _ 0 (length s) q q false l (omega arith)

  rest_has : (q : ℕ) → has rest q ≡ true → (has s q ≡ true) × (U q ≡ false)
  rest_has q h =
      let inside : q < length s = omega (arith, has_inside rest q h, rest_long) in
      let both = and_parts (has s q) (not (U q)) (sym (rest_at q inside) ∙ h) in
      (both.0, not-true (U q) both.1)

  rest_keeps : (q : ℕ) → has s q ≡ true → U q ≡ false → has rest q ≡ true
  rest_keeps q h u = rest_at q (has_inside s q h) ∙ and_from (has s q) (not (U q)) h (not_from_false (U q) u)

  -- where what is left has the members that are in s, none of those is of U
  member_left : (g : Aggregate) (k : Member) → members_met s rest g ≡ true → Among k g.members → has s k.statement ≡ true → U k.statement ≡ false
  member_left g k e i h =
      ⊎_elim
      (λ n. absurd (both_ways (has s k.statement) (not-true (has s k.statement) n) h))
      (λ t. (rest_has k.statement t).1)
      (or_cases (not (has s k.statement)) (has rest k.statement) (all_at _ g.members k e i))

-- Take U out of the answer set: what is left does not obey, and the rule that shows it supports a statement of U from outside.
module _ (value : Values) (p : Program) (s : List Bool) (U : ℕ → Bool) (a : AnswerSet value p s) where
  rest_part : (q : ℕ) → U q ≡ true → has s q ≡ true → ProperPart (rest s U) s
  rest_part q u h = record {
    long = rest_long s U;
    part = λ o t. (rest_has s U o t).0;
    differs = λ i. both_ways (U q) (rest_has s U q (ap (λ x. has x q) i ∙ h)).1 u;
  }

  supports : (r : Rule) → Among r p.rules → obeys_rule value s (rest s U) r ≡ false → SupportsFromOutside value s U r
  supports r i k =
      let left = rest s U in
      let parts = or_parts (not (counts value s r && needs_met s left r)) (list_any (has left) r.head) k in
      let both = and_parts (counts value s r) (needs_met s left r) (not-false (counts value s r && needs_met s left r) parts.0) in
      let met = and_parts (list_all (has left) r.positive) (list_all (members_met s left) r.aggregates) both.1 in
      let positive : (q : ℕ) → Among q r.positive → (has s q ≡ true) × (U q ≡ false) = λ q j. rest_has s U q (all_at (has left) r.positive q met.0 j) in
      let positives = all_from (has s) r.positive (λ q j. (positive q j).0) in
      record {
        body = record { counted = both.0; positives = positives };
        positives = λ q j. (positive q j).1;
        members = λ g m j. member_left s U g m (all_at (members_met s left) r.aggregates g met.1 j);
        head = any_one (has s) r.head (head_of_obeyed value s s r (all_at (obeys_rule value s s) p.rules r a.obeyed i) both.0 (needs_of_itself s r positives));
        heads = λ q j t.
            ⊎_elim
            (λ u. u)
            (λ u. absurd (both_ways (has left q) (any_none (has left) r.head q parts.1 j) (rest_keeps s U q t u)))
            (cases_Bool (U q));
      }

pub external_support : ExternalSupport
external_support value p s U q a u h =
    let disobeys = ⊎_elim (λ e. absurd (a.minimal (rest s U) (rest_part value p s U a q u h) e)) (λ e. e) (cases_Bool (obeys value s (rest s U) p.rules)) in
    let bad = all_fails (obeys_rule value s (rest s U)) p.rules disobeys in
    (bad.0, bad.1, supports value p s U a bad.0 bad.1 bad.2)

module _ (value : Values) (m : List Mark) (s : List Bool) (ag : Agrees m s) where
  -- a body that is refuted is not true
  refuted_untrue : (r : Rule) → Refuted value m r → BodyTrue value s r → ⊥
  refuted_untrue r (inl (q, true, i, e)) b = both_ways (has s q) (ag q false e) (all_at (has s) r.positive q b.positives i)
  refuted_untrue r (inl (q, false, i, e)) b =
      both_ways (has s q) (not-true (has s q) (all_at _ r.negative q (and_parts (list_all _ r.negative) _ b.counted).0 i)) (ag q true e)
  refuted_untrue r (inr (g, i, e)) b =
      both_ways (true_in value s g) (impossible_false value m s ag g e) (all_at (true_in value s) r.aggregates g (and_parts _ (list_all (true_in value s) r.aggregates) b.counted).1 i)

  -- a rule that is blocked supports nothing from outside
  blocked_supports_none : (U : ℕ → Bool) (r : Rule) → Blocked value m U r → SupportsFromOutside value s U r → ⊥
  blocked_supports_none U r (refuted f) o = refuted_untrue r f o.body
  blocked_supports_none U r (needs q i u) o = both_ways (U q) (o.positives q i) u
  blocked_supports_none U r (needs_member g k i j u e) o = both_ways (U k.statement) (o.members g k i j (ag k.statement true e)) u
  blocked_supports_none U r (heads_other q i u e) o = both_ways (U q) u (o.heads q i (ag q true e))

pub unfounded_excludes : (value : Values) (p : Program) (m : List Mark) (U : ℕ → Bool) → Unfounded value p.rules m U → NoAnswer value p m
unfounded_excludes value p m U f s a ag =
    let q = f.some_in in
    let r = external_support value p s U q.0 a q.1 (ag q.0 true q.2) in
    let o = r.2 in
    blocked_supports_none value m s ag U r.0 (f.blocked r.0 o.head.0 r.1 o.head.1 (o.heads o.head.0 o.head.1 o.head.2)) o

pub broken_excludes : (value : Values) (p : Program) (m : List Mark) → Broken value p.rules m → NoAnswer value p m
broken_excludes value p m b s a ag = not_broken value m s ag p a b
