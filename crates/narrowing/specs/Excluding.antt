-- What a narrowing step gives: a marking with which no answer set agrees, or none.
use Rattle.marking.specs.declared.marking.Marking.{Marking}
use Rattle.narrowing.specs.Unfounded.{NoAnswer}
use Rattle.semantics.specs.Families.{Values}
use Rattle.semantics.specs.Programs.{Program}
use Rattle.std.specs.Prelude.{Option, IfSome}

-- no answer set agrees with the marking, if there is one
abbrev pub Excludes : Values → Program → Option Marking → Type 0
Excludes value p r = IfSome r (λ m. NoAnswer value p m)
