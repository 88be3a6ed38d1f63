-- Which rules are left for a statement.
use Rattle.std.specs.Prelude.{◌≡◌, ℕ, ◌<◌, if◌then◌else◌, ◌⊎◌, List, [], ◌∷◌, ◌==◌, slice_index_or, slice_set}
use Rattle.drawing.specs.declared.supports.Support.{Support}
use Rattle.drawing.specs.declared.supports.Support.TheVariants.{Unsupported, OneRule, ManyRules}
use Rattle.semantics.specs.Families.{Values}
use Rattle.semantics.specs.Lists.{Among, Nth}
use Rattle.semantics.specs.Markings.{Refuted}
use Rattle.semantics.specs.Programs.{Rule}
use Rattle.semantics.specs.declared.Mark.{Mark}

abbrev pub supported_by : List Support → ℕ → Support
supported_by by q = slice_index_or by q Unsupported

-- with one rule more; the same rule counts once
abbrev pub with_rule : Support → ℕ → Support
with_rule Unsupported i = OneRule i
with_rule (OneRule j) i = if j == i then OneRule j else ManyRules
with_rule ManyRules i = ManyRules

-- the rule with these head statements is added
abbrev pub added : List Support → List ℕ → ℕ → List Support
added by [] i = by
added by (q ∷ qs) i = slice_set (added by qs i) q (with_rule (supported_by (added by qs i) q) i)

-- of the first n rules with q in the head, just the one at place i may be not refuted
pub record OneSupport (value : Values) (rules : List Rule) (n : ℕ) (m : List Mark) (q i : ℕ) : Type 0 where
  pub rule : Rule
  pub seen : i < n
  pub place : Nth rules i rule
  pub heads : Among q rule.head
  pub others : (j : ℕ) (o : Rule) → j < n → Nth rules j o → Among q o.head → (j ≡ i) ⊎ Refuted value m o

-- what a support says of the first n rules: all but those that it names are refuted
abbrev pub SupportIs : Values → List Rule → ℕ → List Mark → ℕ → Support → Type 0
SupportIs value rules n m q Unsupported = (j : ℕ) (o : Rule) → j < n → Nth rules j o → Among q o.head → Refuted value m o
SupportIs value rules n m q (OneRule i) = OneSupport value rules n m q i
SupportIs value rules n m q ManyRules = Unit {0}

-- two rules with q in the head are not refuted
pub record TwoStanding (value : Values) (rules : List Rule) (m : List Mark) (q : ℕ) : Type 0 where
  pub first : ℕ
  pub second : ℕ
  pub differ : first ≡ second → ⊥
  pub one : Rule
  pub other : Rule
  pub one_place : Nth rules first one
  pub other_place : Nth rules second other
  pub one_heads : Among q one.head
  pub other_heads : Among q other.head
  pub one_standing : Refuted value m one → ⊥
  pub other_standing : Refuted value m other → ⊥

-- and those that it names are not refuted
abbrev pub Standing : Values → List Rule → List Mark → ℕ → Support → Type 0
Standing value rules m q Unsupported = Unit {0}
Standing value rules m q (OneRule i) = (r : Rule) → Nth rules i r → Refuted value m r → ⊥
Standing value rules m q ManyRules = TwoStanding value rules m q
