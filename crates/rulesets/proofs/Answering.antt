-- From the verdict on an aggregate to an answer.
use Rattle.family.specs.contracts.reading.Verdict.{the_type}
use Rattle.family.specs.declared.reading.Verdict.{Verdict}
use Rattle.family.specs.declared.reading.Verdict.TheVariants.{Certain as Sure, Impossible as Never, Neither as Unknown}
use Rattle.judging.specs.Bodies.{AggregateIs}
use Rattle.rulesets.specs.Judging.{Tells}
use Rattle.semantics.specs.Families.{Values}
use Rattle.semantics.specs.Markings.{Impossible}
use Rattle.semantics.specs.Programs.{Aggregate}
use Rattle.semantics.specs.declared.Mark.{Mark}
use Rattle.std.proofs.Common.{List, refl}
use Rattle.std.proofs.lemmas.Bool.{false≢true}
use denote.Enum.Bare.{sameb}

-- whether the verdict is that it is impossible
pub impossible_told : (value : Values) (m : List Mark) (g : Aggregate) (v : Verdict) → AggregateIs value m g v → Tells (sameb the_type v Never) (Impossible value m g)
impossible_told value m g Sure h = record { so = λ e. absurd (false≢true e); from = λ i. absurd (h.1 i) }
impossible_told value m g Never h = record { so = λ e. h.0; from = λ i. refl }
impossible_told value m g Unknown h = record { so = λ e. absurd (false≢true e); from = λ i. absurd (h.1 i) }
