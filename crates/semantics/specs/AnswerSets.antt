-- Answer sets of programs with aggregates, support, and accounts of findings.
use Rattle.std.specs.Prelude.{◌≡◌, ℕ, Bool, true, false, if◌then◌else◌, not, ◌&&◌, ◌||◌, ◌≢◌, List, [], ◌∷◌, length, ℤ, Some, None, Option}
use Rattle.semantics.specs.declared.Finding.{Finding}
use Rattle.semantics.specs.declared.Member.{Member}
use Rattle.semantics.specs.declared.Relation.{Relation}
use Rattle.semantics.specs.Families.{Values}
use Rattle.semantics.specs.Lists.{Among}
use Rattle.std.specs.List.{list_all, list_any}
use Rattle.semantics.specs.Programs.{Aggregate, Rule, Program, stands}
use Rattle.semantics.specs.Rows.{has, ProperPart, Precedes}

-- the weights of the members whose statements f has
abbrev pub weights : (ℕ → Bool) → List Member → List ℤ
weights f [] = []
weights f (m ∷ ms) = if f m.statement then m.weight ∷ weights f ms else weights f ms

-- nothing stands in no relation
abbrev pub passes : Relation → ℤ → Option ℤ → Bool
passes r b None = false
passes r b (Some z) = stands r z b

-- the aggregate is true in s
abbrev pub true_in : Values → List Bool → Aggregate → Bool
true_in value s g = passes g.relation g.bound (value g.kind (weights (has s) g.members))

-- the rule counts against s: no negative statement is in s, and every aggregate is true in s
abbrev pub counts : Values → List Bool → Rule → Bool
counts value s r = list_all (λ q. not (has s q)) r.negative && list_all (true_in value s) r.aggregates

-- the members that are in s are in t
abbrev pub members_met : List Bool → List Bool → Aggregate → Bool
members_met s t g = list_all (λ m. not (has s m.statement) || has t m.statement) g.members

-- what the rule needs is in t: its positive statements, and the members of its aggregates that are in s
abbrev pub needs_met : List Bool → List Bool → Rule → Bool
needs_met s t r = list_all (has t) r.positive && list_all (members_met s t) r.aggregates

abbrev pub obeys_rule : Values → List Bool → List Bool → Rule → Bool
obeys_rule value s t r = not (counts value s r && needs_met s t r) || list_any (has t) r.head

-- t obeys against s: every rule that counts against s, and whose needs t meets, has a head statement in t
abbrev pub obeys : Values → List Bool → List Bool → List Rule → Bool
obeys value s t rules = list_all (obeys_rule value s t) rules

-- s obeys against itself, and no proper part of s obeys against s
pub record AnswerSet (value : Values) (p : Program) (s : List Bool) : Type 0 where
  pub long : length s ≡ p.statements
  pub obeyed : obeys value s s p.rules ≡ true
  pub minimal : (t : List Bool) → ProperPart t s → obeys value s t p.rules ≢ true

-- the body of the rule is true in s
pub record BodyTrue (value : Values) (s : List Bool) (r : Rule) : Type 0 where
  pub counted : counts value s r ≡ true
  pub positives : list_all (has s) r.positive ≡ true

-- the rule supports its head statement q: its body is true in s, and no other head statement is in s
pub record Supports (value : Values) (s : List Bool) (q : ℕ) (r : Rule) : Type 0 where
  pub body : BodyTrue value s r
  pub heads : Among q r.head
  pub alone : (o : ℕ) → Among o r.head → has s o ≡ true → o ≡ q

-- what is found present is in s, and what is found absent is not
abbrev pub AgreesWith : List Finding → List Bool → Type 0
AgreesWith findings s = (f : Finding) → Among f findings → has s f.statement ≡ f.present

-- an answer set that agrees with the findings
pub record Account (value : Values) (p : Program) (findings : List Finding) (s : List Bool) : Type 0 where
  pub answer : AnswerSet value p s
  pub fits : AgreesWith findings s

-- an account before which no other comes
pub record Earliest (value : Values) (p : Program) (findings : List Finding) (s : List Bool) : Type 0 where
  pub account : Account value p findings s
  pub others : (t : List Bool) → Account value p findings t → t ≢ s → Precedes s t

abbrev pub NoAccount : Values → Program → List Finding → Type 0
NoAccount value p findings = (s : List Bool) → Account value p findings s → ⊥
