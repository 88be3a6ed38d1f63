-- Markings on the way of a drawing, and markings with which it has failed.
use Rattle.std.specs.Prelude.{◌≡◌, ℕ, Bool, not, List, length}
use Rattle.semantics.specs.AnswerSets.{AnswerSet}
use Rattle.semantics.specs.Families.{Values}
use Rattle.semantics.specs.Markings.{Agrees, Below, Broken, Forces, Reaches, Settled, at, marked}
use Rattle.semantics.specs.Programs.{Program}
use Rattle.semantics.specs.declared.Mark.{Mark}

-- it is not broken, and nothing is wanted against its mark
pub record Consistent (value : Values) (p : Program) (m : List Mark) : Type 0 where
  pub whole : Broken value p.rules m → ⊥
  pub agreed : (q : ℕ) (x : Bool) → at m q ≡ marked (not x) → Forces value p.rules m q x → ⊥

-- a step wants q so, or the marking is inconsistent
abbrev pub Wanted : Values → Program → List Mark → ℕ → Bool → Type 0
Wanted value p m q x = Consistent value p m → Forces value p.rules m q x

-- n has the marks of m and more that are wanted: steps lead to it unless it is inconsistent, and no settled marking above
-- m and no answer set that agrees with m is lost
pub record Derived (value : Values) (p : Program) (m n : List Mark) : Type 0 where
  pub long : length n ≡ length m
  pub adds : Below m n
  pub reached : Consistent value p n → Reaches value p.rules m n
  pub under : (top : List Mark) → Settled value p.rules top → length top ≡ length m → Below m top → Below n top
  pub agreed : (s : List Bool) → AnswerSet value p s → Agrees m s → Agrees n s

-- no settled marking lies above m, and no answer set agrees with m
pub record Failed (value : Values) (p : Program) (m : List Mark) : Type 0 where
  pub unsettled : (top : List Mark) → Settled value p.rules top → length top ≡ length m → Below m top → ⊥
  pub unanswered : (s : List Bool) → AnswerSet value p s → Agrees m s → ⊥
