-- What a marking says of some literals.
use Rattle.std.specs.Prelude.{◌≡◌, ℕ, Bool, not, ◌⊎◌, List, map}
use Rattle.judging.specs.declared.literals.Literal.{Literal}
use Rattle.judging.specs.declared.literals.Literals.{Literals}
use Rattle.judging.specs.declared.literals.Literals.TheVariants.{Met, OneOpen, SeveralOpen, Against}
use Rattle.semantics.specs.Lists.{Among}
use Rattle.semantics.specs.Markings.{at, marked}
use Rattle.semantics.specs.declared.Mark.{Mark}
use Rattle.semantics.specs.declared.Mark.TheVariants.{Open}

-- the statements, each to be in (true) or out (false)
abbrev pub as_literals : Bool → List ℕ → List Literal
as_literals x qs = map (λ q. record { statement = q; present = x }) qs

abbrev pub IsMet : List Mark → Literal → Type 0
IsMet m l = at m l.statement ≡ marked l.present

abbrev pub IsOpen : List Mark → Literal → Type 0
IsOpen m l = at m l.statement ≡ Open

-- none is against its mark, and two different ones are open
pub record TwoOpen (m : List Mark) (ls : List Literal) : Type 0 where
  pub one : Literal
  pub other : Literal
  pub one_among : Among one ls
  pub other_among : Among other ls
  pub one_open : IsOpen m one
  pub other_open : IsOpen m other
  pub differ : one ≡ other → ⊥
  pub rest : (l : Literal) → Among l ls → IsOpen m l ⊎ IsMet m l

abbrev pub LiteralsAre : List Mark → List Literal → Literals → Type 0
LiteralsAre m ls Met = (l : Literal) → Among l ls → IsMet m l
LiteralsAre m ls (OneOpen o) = Among o ls × IsOpen m o × ((l : Literal) → Among l ls → (l ≡ o) ⊎ IsMet m l)
LiteralsAre m ls SeveralOpen = TwoOpen m ls
LiteralsAre m ls Against = (l : Literal) × Among l ls × (at m l.statement ≡ marked (not l.present))
