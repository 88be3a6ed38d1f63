-- Rules as sets of statements.
use Rattle.marking.specs.Sets.{contains}
use Rattle.marking.specs.declared.set.Set.{Set}
use Rattle.rulesets.specs.declared.ruleset.Ruleset.{Ruleset}
use Rattle.semantics.specs.Programs.{Aggregate, Rule}
use Rattle.semantics.specs.declared.Member.{Member}
use Rattle.std.specs.List.{list_any}
use Rattle.std.specs.Prelude.{◌≡◌, ◌==◌, ◌||◌, ℕ, Bool, List}
use Rattle.table.specs.Contents.{Contents}
use Rattle.table.specs.View.{Covers}

-- the statements of the set are those of the list
abbrev pub IsSet : Set → List ℕ → Type 0
IsSet s qs = (q : ℕ) → contains s q ≡ list_any (λ p. p == q) qs

-- whether statement q is that of a member
abbrev pub has_member : ℕ → List Member → Bool
has_member q ms = list_any (λ a. a.statement == q) ms

-- the statements of the set are those of another set, and of the members
abbrev pub IsMembers : Set → Set → List Member → Type 0
IsMembers s before ms = (q : ℕ) → contains s q ≡ (contains before q || has_member q ms)

-- the statements of the set are those of the members of the aggregates
abbrev pub IsSetOfAll : Set → List Aggregate → Type 0
IsSetOfAll s gs = (q : ℕ) → contains s q ≡ list_any (λ g. has_member q g.members) gs

-- the sets are those of the rule, and its aggregates stand at these places
pub record SetsOf (c : Contents) (r : Rule) (s : Ruleset) : Type 0 where
  pub head : IsSet s.head r.head
  pub positive : IsSet s.positive r.positive
  pub negative : IsSet s.negative r.negative
  pub members : IsSetOfAll s.members r.aggregates
  pub aggregates : Covers c.aggregates r.aggregates s.aggregates
