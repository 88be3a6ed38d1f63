-- What a rule rests on in a set of statements: the rule, and each of its aggregates with the members that are in.
use Rattle.std.specs.Prelude.{◌≡◌, ℕ, Bool, List, ◌++◌, codes, filter}
use Rattle.std.specs.List.{flat_map}
use Rattle.notation.specs.Shown.{newline}
use Rattle.notation.specs.Text.{aggregate_text, rule_text}
use Rattle.semantics.specs.AnswerSets.{true_in}
use Rattle.semantics.specs.Families.{Values}
use Rattle.semantics.specs.Programs.{Aggregate, Rule}
use Rattle.semantics.specs.Rows.{has}

-- the aggregate with those of its members that are in s
abbrev pub present_in : List Bool → Aggregate → Aggregate
present_in s g = record {
  kind = g.kind;
  relation = g.relation;
  bound = g.bound;
  members = filter (λ m. has s m.statement) g.members;
}

-- it is as true in s as the whole one: the members that are not in have no part in it
abbrev pub MembersSuffice : List Bool → Type 0
MembersSuffice s = (value : Values) (g : Aggregate) → true_in value s (present_in s g) ≡ true_in value s g

module _ (names : List (List ℕ)) (s : List Bool) where
  -- as `true by sum{e:4} >= 2`, in a line
  abbrev pub true_by : Aggregate → List ℕ
  true_by g = codes "  true by " ++ (aggregate_text names (present_in s g) ++ newline)

  -- the rule in a line, and then each of its aggregates
  abbrev pub grounds_text : Rule → List ℕ
  grounds_text r = codes "  " ++ (rule_text names r ++ (newline ++ flat_map true_by r.aggregates))
