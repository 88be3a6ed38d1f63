-- The extremes of a bag.
use Rattle.family.specs.Readings.{Extremes}
use Rattle.family.specs.declared.reading.Span.{Span}
use Rattle.semantics.specs.Families.{Weight}
use Rattle.semantics.specs.Lists.{Among}
use Rattle.std.specs.Int.{int_max, int_min}
use Rattle.std.specs.Prelude.{◌≡◌, List, [], ℤ, Some, None, Option, MatchOption}

-- nothing, and the bag is empty; or the least and the greatest weight of the bag
abbrev pub Spans : Option Span → List ℤ → Type 0
Spans s v = MatchOption s (v ≡ []) (Extremes (λ z. Among z v))

-- the extremes of one weight
abbrev pub alone : ℤ → Span
alone w = record { least = w; greatest = w }

-- both extremes are within 1,000,000 of zero
abbrev pub Small : Span → Type 0
Small s = Weight s.least × Weight s.greatest

-- and so they are where there are any
abbrev pub SmallIfAny : Option Span → Type 0
SmallIfAny t = (s : Span) → t ≡ Some s → Small s

-- the extremes of two bags together
abbrev pub joined : Span → Option Span → Span
joined s None = s
joined s (Some t) = record { least = int_min s.least t.least; greatest = int_max s.greatest t.greatest }
