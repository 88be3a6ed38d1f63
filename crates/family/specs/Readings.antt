-- What a reading tells of two bags, and what it says of a relation to a bound.
use Rattle.family.specs.Bags.{Reached}
use Rattle.family.specs.declared.reading.Reading.{Reading}
use Rattle.family.specs.declared.reading.Span.{Span}
use Rattle.family.specs.declared.reading.Verdict.{Verdict}
use Rattle.family.specs.declared.reading.Verdict.TheVariants.{Certain, Impossible, Neither}
use Rattle.semantics.specs.Programs.{stands}
use Rattle.semantics.specs.declared.Relation.{Relation}
use Rattle.std.specs.Prelude.{◌≡◌, true, false, List, ℤ, ◌≤ℤ◌, IfSome, Some, None, ◌↔◌, IsTrue, Option, MatchOption}

-- z lies from the least to the greatest
abbrev pub Within : Span → ℤ → Type 0
Within s z = (s.least ≤ℤ z) × (z ≤ℤ s.greatest)

-- the least and the greatest of the numbers with this property
pub record Extremes (P : ℤ → Type 0) (s : Span) : Type 0 where
  pub least : P s.least
  pub greatest : P s.greatest
  pub all : (z : ℤ) → P z → Within s z

-- whether nothing is reached, and the least and the greatest number that is, or that none is
pub record Reads (value : List ℤ → Option ℤ) (sure opens : List ℤ) (r : Reading) : Type 0 where
  pub nothing : IsTrue r.nothing ↔ Reached value sure opens None
  pub numbers : MatchOption r.numbers ((z : ℤ) → Reached value sure opens (Some z) → ⊥) (Extremes (λ z. Reached value sure opens (Some z)))

-- every number from the least to the greatest does, or does not, stand in the relation
abbrev pub AllStand : Span → Relation → ℤ → Type 0
AllStand s relation bound = (z : ℤ) → Within s z → stands relation z bound ≡ true

abbrev pub NoneStands : Span → Relation → ℤ → Type 0
NoneStands s relation bound = (z : ℤ) → Within s z → stands relation z bound ≡ false

-- a number is reached, nothing is not, and every number from the least to the greatest stands in the relation
pub record SaysCertain (r : Reading) (relation : Relation) (bound : ℤ) : Type 0 where
  pub never_nothing : r.nothing ≡ false
  pub stand : MatchOption r.numbers ⊥ (λ s. AllStand s relation bound)

-- none does, or no number is reached
abbrev pub SaysImpossible : Reading → Relation → ℤ → Type 0
SaysImpossible r relation bound = IfSome r.numbers (λ s. NoneStands s relation bound)

-- the least is not above the greatest
abbrev pub Ordered : Reading → Type 0
Ordered r = IfSome r.numbers (λ s. s.least ≤ℤ s.greatest)

-- the verdict on what may be certain or impossible, and is never both
abbrev pub Judges : Verdict → Type 0 → Type 0 → Type 0
Judges Certain C I = C × (I → ⊥)
Judges Impossible C I = I × (C → ⊥)
Judges Neither C I = (C → ⊥) × (I → ⊥)

-- every bag is worth a number, the least and the greatest among them
abbrev pub only_numbers : Span → Reading
only_numbers s = record { nothing = false; numbers = Some s }

-- some bag is worth nothing, and others a number where there is one
abbrev pub nothing_or : Option Span → Reading
nothing_or t = record { nothing = true; numbers = t }
