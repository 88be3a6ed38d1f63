-- Which numbers of a span stand in a relation.
use Rattle.family.specs.Readings.{AllStand, NoneStands}
use Rattle.family.specs.declared.reading.Span.{Span}
use Rattle.semantics.specs.declared.Relation.{Relation}
use Rattle.std.proofs.Common.{ℤ, ◌≤ℤ◌}
use lib.Signed.{≤ℤ_refl}
use Rattle.std.proofs.lemmas.Bool.{both_ways}

-- no number of a span stands in a relation in which they all do
pub not_none : (s : Span) (r : Relation) (b : ℤ) → s.least ≤ℤ s.greatest → AllStand s r b → NoneStands s r b → ⊥
not_none s r b h a n = both_ways _ (n s.least (≤ℤ_refl s.least, h)) (a s.least (≤ℤ_refl s.least, h))
