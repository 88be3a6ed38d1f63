-- What a drawing gives, over the steps and over the accounts.
use Rattle.marking.specs.declared.marking.Marking.{Marking}
use Rattle.semantics.specs.AnswerSets.{Account, AnswerSet, NoAccount}
use Rattle.semantics.specs.Families.{Values}
use Rattle.semantics.specs.Markings.{Agrees, Drawn, noted}
use Rattle.semantics.specs.Markings.{Clash as NoDrawing}
use Rattle.semantics.specs.Programs.{Program, Rule}
use Rattle.semantics.specs.declared.Finding.{Finding}
use Rattle.semantics.specs.declared.Mark.{Mark}
use Rattle.std.specs.Prelude.{◌≡◌, Bool, List, Some, None, Option}

-- m is the settled marking that steps reach from the start, and there is no other
pub record TheDrawing (value : Values) (rules : List Rule) (start m : List Mark) : Type 0 where
  pub drawn : Drawn value rules start m
  pub only : (n : List Mark) → Drawn value rules start n → n ≡ m

-- from a marking: the settled marking that steps reach, or that they reach none
abbrev pub DrawsFrom : Values → Program → List Mark → Option Marking → Type 0
DrawsFrom value p start (Some m) = TheDrawing value p.rules start m
DrawsFrom value p start None = NoDrawing value p.rules start

-- no answer set that agrees with the start is lost; where there is no drawing, none agrees
abbrev pub KeepsAnswers : Values → Program → List Mark → Option Marking → Type 0
KeepsAnswers value p start (Some m) = (s : List Bool) → AnswerSet value p s → Agrees start s → Agrees m s
KeepsAnswers value p start None = (s : List Bool) → AnswerSet value p s → Agrees start s → ⊥

-- from findings
abbrev pub Draws : Values → Program → List Finding → Option Marking → Type 0
Draws value p findings r = DrawsFrom value p (noted p findings) r

-- every account has what is marked in and lacks what is marked out; where there is no drawing, there is no account
abbrev pub KeepsAccounts : Values → Program → List Finding → Option Marking → Type 0
KeepsAccounts value p findings (Some m) = (s : List Bool) → Account value p findings s → Agrees m s
KeepsAccounts value p findings None = NoAccount value p findings
