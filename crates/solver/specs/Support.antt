-- On which rule a statement of a row stands.
use Rattle.std.specs.Prelude.{◌≡◌, ℕ, ◌<◌, ◌==◌, Bool, true, false, if◌then◌else◌, not, ◌&&◌, ◌||◌, List, map, position, slice_index, Some, None, Option}
use Rattle.std.specs.List.{list_all, list_any, range_with_len}
use Rattle.semantics.specs.AnswerSets.{Supports, counts}
use Rattle.semantics.specs.Families.{Values}
use Rattle.semantics.specs.Lists.{Among, Nth}
use Rattle.semantics.specs.Programs.{Program, Rule}
use Rattle.semantics.specs.Rows.{has}
use Rattle.solver.specs.declared.support.Support.{Support}
use Rattle.solver.specs.declared.support.Support.TheVariants.{ByRule, ByNone, NotIn}

-- the row of n statements that bytes stand for: a statement is in where its byte is 1
abbrev pub row_read : ℕ → List ℕ → List Bool
row_read n bytes = map (λ q. slice_index bytes q == 1) (range_with_len 0 n)

-- q is a head statement of the rule, and the only one that is in s
pub record OnlyHead (s : List Bool) (q : ℕ) (r : Rule) : Type 0 where
  pub heads : Among q r.head
  pub alone : (o : ℕ) → Among o r.head → has s o ≡ true → o ≡ q

-- rule i is the first one that supports q in s
pub record FirstToSupport (value : Values) (rules : List Rule) (s : List Bool) (q i : ℕ) : Type 0 where
  pub rule : Rule
  pub place : Nth rules i rule
  pub supports : Supports value s q rule
  pub none_before : (j : ℕ) (r : Rule) → j < i → Nth rules j r → Supports value s q r → ⊥

-- what is said of a statement is so: it is in, and this rule is the first to support it; it is in, and no rule supports
-- it; or it is not in
abbrev pub StandsOn : Values → Program → List Bool → ℕ → Support → Type 0
StandsOn value p s q (ByRule i) = (has s q ≡ true) × FirstToSupport value p.rules s q i
StandsOn value p s q ByNone = (has s q ≡ true) × ((r : Rule) → Among r p.rules → Supports value s q r → ⊥)
StandsOn value p s q NotIn = has s q ≡ false

-- whether a rule supports q in s
abbrev pub supports : Values → List Bool → ℕ → Rule → Bool
supports value s q r =
    (counts value s r && list_all (has s) r.positive)
    && (list_any (λ o. o == q) r.head && list_all (λ o. (o == q) || not (has s o)) r.head)

-- with the number of the first rule that does, or that there is none
abbrev pub by_first : Option ℕ → Support
by_first (Some i) = ByRule i
by_first None = ByNone

-- what is said of q in s
abbrev pub support_of : Values → Program → List Bool → ℕ → Support
support_of value p s q = if has s q then by_first (position (supports value s q) p.rules) else NotIn
