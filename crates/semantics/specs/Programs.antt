-- Ground disjunctive logic programs with aggregates.
use Rattle.std.specs.Prelude.{ℕ, Bool, ◌&&◌, ◌||◌, List, ℤ, int_le, int_lt}
use Rattle.semantics.specs.declared.Member.{Member}
use Rattle.semantics.specs.declared.Relation.{Relation}
use Rattle.semantics.specs.declared.Relation.TheVariants.{Less, AtMost, Equal, Unequal, AtLeast, More}

-- a kind of the family over the weights of a set of members, held against a bound
pub record Aggregate : Type 0 where
  pub kind : ℕ
  pub relation : Relation
  pub bound : ℤ
  pub members : List Member

-- the head is a disjunction; the body has positive and negative statements, and aggregates
pub record Rule : Type 0 where
  pub head : List ℕ
  pub positive : List ℕ
  pub negative : List ℕ
  pub aggregates : List Aggregate

-- the statements are the numbers below `statements`
pub record Program : Type 0 where
  pub statements : ℕ
  pub rules : List Rule

-- the number z stands in the relation to the bound b
abbrev pub stands : Relation → ℤ → ℤ → Bool
stands Less z b = int_lt z b
stands AtMost z b = int_le z b
stands Equal z b = int_le z b && int_le b z
stands Unequal z b = int_lt z b || int_lt b z
stands AtLeast z b = int_le b z
stands More z b = int_lt b z
