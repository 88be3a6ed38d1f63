-- What a marking says of the body of a rule.
use Rattle.std.specs.Prelude.{ℕ, Bool, true, false, List, ◌++◌, ◌≢◌}
use Rattle.family.specs.Readings.{Judges}
use Rattle.family.specs.declared.reading.Verdict.{Verdict}
use Rattle.family.specs.declared.reading.Verdict.TheVariants.{Certain as Sure, Impossible as Never, Neither as Unknown}
use Rattle.judging.specs.Literals.{IsOpen, as_literals}
use Rattle.judging.specs.declared.bodies.Body.{Body}
use Rattle.judging.specs.declared.bodies.Body.TheVariants.{Certain as IsCertain, ButFor, Refuted as IsRefuted, Neither}
use Rattle.judging.specs.declared.literals.Literal.{Literal}
use Rattle.judging.specs.declared.literals.Literals.{Literals}
use Rattle.judging.specs.declared.literals.Literals.TheVariants.{Met, OneOpen, SeveralOpen, Against}
use Rattle.semantics.specs.Families.{Values}
use Rattle.semantics.specs.Lists.{Among}
use Rattle.semantics.specs.Markings.{BodyCertain, Certain, CertainButFor, Impossible, Refuted, at}
use Rattle.semantics.specs.Programs.{Aggregate, Rule}
use Rattle.semantics.specs.declared.Mark.{Mark}
use Rattle.semantics.specs.declared.Mark.TheVariants.{Open}

-- the positive statements, to be in, and the negative ones, to be out
abbrev pub body_literals : Rule → List Literal
body_literals r = as_literals true r.positive ++ as_literals false r.negative

abbrev pub AllCertain : Values → List Mark → List Aggregate → Type 0
AllCertain value m gs = (g : Aggregate) → Among g gs → Certain value m g

abbrev pub SomeImpossible : Values → List Mark → List Aggregate → Type 0
SomeImpossible value m gs = (g : Aggregate) × Among g gs × Impossible value m g

-- the verdict on an aggregate
abbrev pub AggregateIs : Values → List Mark → Aggregate → Verdict → Type 0
AggregateIs value m g v = Judges v (Certain value m g) (Impossible value m g)

-- the verdict on several: that all are certain, or that one is impossible
abbrev pub AggregatesAre : Values → List Mark → List Aggregate → Verdict → Type 0
AggregatesAre value m gs v = Judges v (AllCertain value m gs) (SomeImpossible value m gs)

pub record BodyNeither (value : Values) (m : List Mark) (r : Rule) : Type 0 where
  pub standing : Refuted value m r → ⊥
  pub uncertain : BodyCertain value m r → ⊥
  pub but_for_none : (q : ℕ) (x : Bool) → CertainButFor value m r q x → at m q ≢ Open

abbrev pub BodyIs : Values → List Mark → Rule → Body → Type 0
BodyIs value m r IsCertain = BodyCertain value m r × (Refuted value m r → ⊥)
BodyIs value m r (ButFor l) = CertainButFor value m r l.statement l.present × IsOpen m l × (Refuted value m r → ⊥)
BodyIs value m r IsRefuted = Refuted value m r
BodyIs value m r Neither = BodyNeither value m r

-- the verdict on several aggregates, from that on some of them and that on one more
abbrev pub both : Verdict → Verdict → Verdict
both Sure v = v
both Never v = Never
both Unknown Sure = Unknown
both Unknown Never = Never
both Unknown Unknown = Unknown

-- the body with these literals and aggregates
abbrev pub body_of : Literals → Verdict → Body
body_of Met Sure = IsCertain
body_of Met Never = IsRefuted
body_of Met Unknown = Neither
body_of (OneOpen l) Sure = ButFor l
body_of (OneOpen l) Never = IsRefuted
body_of (OneOpen l) Unknown = Neither
body_of SeveralOpen Sure = Neither
body_of SeveralOpen Never = IsRefuted
body_of SeveralOpen Unknown = Neither
body_of Against v = IsRefuted
