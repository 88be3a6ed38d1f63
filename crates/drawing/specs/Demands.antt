-- What a rule demands by the first and the third step.
use Rattle.drawing.specs.Applying.{IsMarked}
use Rattle.drawing.specs.Deriving.{Wanted}
use Rattle.drawing.specs.Passing.{RulePassed}
use Rattle.drawing.specs.declared.forcing.Clash.{Clash}
use Rattle.judging.specs.declared.bodies.Body.{Body}
use Rattle.judging.specs.declared.bodies.Body.TheVariants.{Certain, ButFor, Refuted, Neither}
use Rattle.judging.specs.declared.literals.Literal.{Literal}
use Rattle.judging.specs.declared.literals.Literals.{Literals}
use Rattle.judging.specs.declared.literals.Literals.TheVariants.{Met, OneOpen, SeveralOpen, Against}
use Rattle.semantics.specs.Families.{Values}
use Rattle.semantics.specs.Markings.{Broken}
use Rattle.semantics.specs.Programs.{Program, Rule}
use Rattle.semantics.specs.declared.Mark.{Mark}
use Rattle.std.specs.Prelude.{true, not, List, Some, None, Ok, Err, Option, Result}

-- a literal, or nothing; a clash where the rule is broken
abbrev pub demand_of : Body → Literals → Result (Option Literal) Clash
demand_of Certain Met = Err (record {})
demand_of Certain (OneOpen l) = Ok (Some (record { statement = l.statement; present = true }))
demand_of Certain SeveralOpen = Ok None
demand_of Certain Against = Ok None
demand_of (ButFor l) Met = Ok (Some (record { statement = l.statement; present = not l.present }))
demand_of (ButFor l) (OneOpen o) = Ok None
demand_of (ButFor l) SeveralOpen = Ok None
demand_of (ButFor l) Against = Ok None
demand_of Refuted h = Ok None
demand_of Neither h = Ok None

-- the demand is rightful, and once it is met the rule is passed
abbrev pub Demanded : Values → Program → List Mark → Rule → Result (Option Literal) Clash → Type 0
Demanded value p m r (Err _) = Broken value p.rules m
Demanded value p m r (Ok (Some l)) = Wanted value p m l.statement l.present × (IsMarked m l.present l.statement → RulePassed value m r)
Demanded value p m r (Ok None) = RulePassed value m r
