-- Support, and that no answer set is a proper part of another.
use Rattle.std.proofs.Common.{◌≡◌, ℕ, ◌<◌, Bool, true, false, cond, not, ◌&&◌, ◌||◌, List, [], ◌∷◌, length, set, ℤ, sym, refl, ap, ◌∙◌, subst, ap₂, inl, inr, ⊎_elim}
use Rattle.std.proofs.lemmas.List.{length-set, get_or-set_same, get_or-set_other}
use Rattle.std.proofs.lemmas.Bool.{both_ways, not-true, not-false, cases_eq, cases_Bool, and_parts, and_from, or_cases, or_parts, or_left, or_right, not_from_false}
use Rattle.semantics.specs.declared.Member.{Member}
use Rattle.semantics.specs.AnswerSets.{weights, passes, true_in, counts, members_met, needs_met, obeys_rule, obeys, AnswerSet, Supports}
use Rattle.semantics.specs.Families.{Values}
use Rattle.semantics.specs.Lists.{Among}
use Rattle.std.specs.List.{list_all, list_any}
use Rattle.semantics.specs.Programs.{Aggregate, Rule, Program}
use Rattle.semantics.specs.Rows.{has, Part, ProperPart}
use Rattle.semantics.specs.Theorems.{Supported, Antichain}
use Rattle.semantics.proofs.FullMarkings.{has_inside}
use Rattle.semantics.proofs.Lists.{all_at, all_from, all_fails, any_one, any_none}

implies_itself : (b : Bool) → (not b || b) ≡ true
implies_itself true = refl
implies_itself false = refl

-- a rule that t obeys against s, that counts against s and whose needs t meets, has a head statement in t
pub head_of_obeyed : (value : Values) (s t : List Bool) (r : Rule) → obeys_rule value s t r ≡ true → counts value s r ≡ true → needs_met s t r ≡ true → list_any (has t) r.head ≡ true
head_of_obeyed value s t r k c m =
    let bound = counts value s r && needs_met s t r in
    ⊎_elim
    (λ e. absurd (both_ways bound (not-true bound e) (and_from (counts value s r) (needs_met s t r) c m)))
    (λ e. e)
    (or_cases (not bound) (list_any (has t) r.head) k)

-- the members of s ask nothing more of s
pub needs_of_itself : (s : List Bool) (r : Rule) → list_all (has s) r.positive ≡ true → needs_met s s r ≡ true
needs_of_itself s r h =
    and_from (list_all (has s) r.positive) _ h
    (all_from _ r.aggregates (λ g i. all_from _ g.members (λ m j. implies_itself (has s m.statement))))

-- Take q out of the answer set: what is left does not obey, and the rule that shows it supports q.
module _ (value : Values) (p : Program) (s : List Bool) (q : ℕ) (a : AnswerSet value p s) (h : has s q ≡ true) where
  inside : q < length s
  inside = has_inside s q h

  abbrev rest : List Bool
  rest = set s q false

  rest_lacks : has rest q ≡ false
  rest_lacks = get_or-set_same s q false false inside

  rest_part : ProperPart rest s
  rest_part = record {
    long = length-set s q false;
    part = λ o t.
        ⊎_elim
        (λ e. absurd (both_ways (has rest q) rest_lacks (ap (has rest) (sym e) ∙ t)))
        (λ n. sym (get_or-set_other s q o false false n) ∙ t)
        (cases_eq o q);
    differs = λ i. both_ways (has s q) (sym (ap (λ x. has x q) i) ∙ rest_lacks) h;
  }

  rest_disobeys : obeys value s rest p.rules ≡ false
  rest_disobeys = ⊎_elim (λ e. absurd (a.minimal rest rest_part e)) (λ e. e) (cases_Bool (obeys value s rest p.rules))

  supports : (r : Rule) → Among r p.rules → obeys_rule value s rest r ≡ false → Supports value s q r
  supports r i k =
      let parts = or_parts (not (counts value s r && needs_met s rest r)) (list_any (has rest) r.head) k in
      let both = and_parts (counts value s r) (needs_met s rest r) (not-false (counts value s r && needs_met s rest r) parts.0) in
      let left = (and_parts (list_all (has rest) r.positive) _ both.1).0 in
      let positives : list_all (has s) r.positive ≡ true = all_from (has s) r.positive (λ o j. rest_part.part o (all_at (has rest) r.positive o left j)) in
      let some = any_one (has s) r.head (head_of_obeyed value s s r (all_at (obeys_rule value s s) p.rules r a.obeyed i) both.0 (needs_of_itself s r positives)) in
      let alone : (o : ℕ) → Among o r.head → has s o ≡ true → o ≡ q = λ o j t.
      ⊎_elim (λ e. e) (λ n. absurd (both_ways (has rest o) (any_none (has rest) r.head o parts.1 j) (get_or-set_other s q o false false n ∙ t))) (cases_eq o q)
      in
      record {
        body = record { counted = both.0; positives = positives };
        heads = subst (λ o. Among o r.head) (alone some.0 some.1 some.2) some.1;
        alone = alone;
      }

pub supported : (s : List Bool) (q : ℕ) → has s q ≡ true → Supported s q
supported s q h value p a =
    let bad = all_fails (obeys_rule value s (set s q false)) p.rules (rest_disobeys value p s q a h) in
    (bad.0, bad.1, supports value p s q a h bad.0 bad.1 bad.2)

-- the truth of an aggregate is a matter of its members alone
same_weights : (s t : List Bool) (ms : List Member) → ((m : Member) → Among m ms → has s m.statement ≡ has t m.statement) → weights (has s) ms ≡ weights (has t) ms
same_weights s t [] h = refl
same_weights s t (m ∷ ms) h = ap₂ (λ (b : Bool) (ws : List ℤ). cond b (m.weight ∷ ws) ws) (h m (inl refl)) (same_weights s t ms (λ q i. h q (inr i)))

pub true_by_members : (value : Values) (g : Aggregate) (s t : List Bool) → ((m : Member) → Among m g.members → has s m.statement ≡ has t m.statement) → true_in value s g ≡ true_in value t g
true_by_members value g s t h = ap (λ ws. passes g.relation g.bound (value g.kind ws)) (same_weights s t g.members h)

-- Of two answer sets, one part of the other: a rule that counts against the greater, with needs in the lesser, has
-- the same members in both, so it counts against the lesser; so the lesser obeys against the greater.
module _ (value : Values) (a b : List Bool) (part : Part a b) where
  absent : (q : ℕ) → has b q ≡ false → has a q ≡ false
  absent q h = ⊎_elim (λ t. absurd (both_ways (has b q) h (part q t))) (λ e. e) (cases_Bool (has a q))

  same_member : (m : Member) → (not (has b m.statement) || has a m.statement) ≡ true → has a m.statement ≡ has b m.statement
  same_member m h =
      ⊎_elim
      (λ t. ⊎_elim (λ n. absurd (both_ways (has b m.statement) (not-true (has b m.statement) n) t)) (λ u. u ∙ sym t) (or_cases (not (has b m.statement)) (has a m.statement) h))
      (λ f. absent m.statement f ∙ sym f)
      (cases_Bool (has b m.statement))

  counts_below : (r : Rule) → counts value b r ≡ true → needs_met b a r ≡ true → counts value a r ≡ true
  counts_below r c m =
      let cs = and_parts (list_all (λ q. not (has b q)) r.negative) (list_all (true_in value b) r.aggregates) c in
      let ms = and_parts (list_all (has a) r.positive) (list_all (members_met b a) r.aggregates) m in
      and_from (list_all (λ q. not (has a q)) r.negative) (list_all (true_in value a) r.aggregates)
      (all_from _ r.negative (λ q i. not_from_false (has a q) (absent q (not-true (has b q) (all_at (λ q. not (has b q)) r.negative q cs.0 i)))))
      (all_from _ r.aggregates (λ g i.
      true_by_members value g a b (λ m j. same_member m (all_at _ g.members m (all_at (members_met b a) r.aggregates g ms.1 i) j))
      ∙ all_at (true_in value b) r.aggregates g cs.1 i))

  obeys_below : (rules : List Rule) → obeys value a a rules ≡ true → obeys value b a rules ≡ true
  obeys_below rules h = all_from (obeys_rule value b a) rules (λ r i.
      let bound = counts value b r && needs_met b a r in
      ⊎_elim
      (λ t. or_right (not bound) (list_any (has a) r.head)
      (let both = and_parts (counts value b r) (needs_met b a r) t in
      head_of_obeyed value a a r (all_at (obeys_rule value a a) rules r h i) (counts_below r both.0 both.1) (needs_of_itself a r (and_parts (list_all (has a) r.positive) _ both.1).0)))
      (λ f. or_left (not bound) (list_any (has a) r.head) (not_from_false bound f))
      (cases_Bool bound))

pub antichain : (a b : List Bool) → Antichain a b
antichain a b value p f g x y part = y.answer.minimal a part (obeys_below value a b part.part p.rules x.answer.obeyed)
