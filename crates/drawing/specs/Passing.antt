-- What is so of a rule, or of a statement, to which no step has anything to add.
use Rattle.std.specs.Prelude.{◌≡◌, ℕ, Bool, true, false, not, List, ◌≢◌}
use Rattle.drawing.specs.Applying.{IsMarked}
use Rattle.semantics.specs.Families.{Values}
use Rattle.semantics.specs.Lists.{Among}
use Rattle.semantics.specs.Markings.{BodyCertain, CertainButFor, HeadOut, OneLeft, OthersOut, Refuted, at, literals}
use Rattle.semantics.specs.Programs.{Rule}
use Rattle.semantics.specs.declared.Mark.{Mark}
use Rattle.semantics.specs.declared.Mark.TheVariants.{In}

-- the rule is not broken, and what it wants by the first or the third step is so marked
pub record RulePassed (value : Values) (m : List Mark) (r : Rule) : Type 0 where
  pub whole : HeadOut m r → BodyCertain value m r → ⊥
  pub fires : BodyCertain value m r → (q : ℕ) → Among q r.head → OthersOut m r q → IsMarked m true q
  pub blocks : HeadOut m r → (q : ℕ) (x : Bool) → CertainButFor value m r q x → IsMarked m (not x) q

-- the positives of the rule are in, its negatives out, and its head statements but for p out
pub record Explained (m : List Mark) (r : Rule) (p : ℕ) : Type 0 where
  pub body : (q : ℕ) (x : Bool) → Among q (literals r x) → IsMarked m x q
  pub head : (q : ℕ) → Among q r.head → (q ≢ p) → IsMarked m false q

-- what is wanted by the second or the fourth step because of p is so marked
pub record StatementPassed (value : Values) (rules : List Rule) (m : List Mark) (p : ℕ) : Type 0 where
  pub explained : at m p ≡ In → (i : ℕ) (r : Rule) → OneLeft value rules m p i r → Explained m r p
  pub supported : ((r : Rule) → Among r rules → Among p r.head → Refuted value m r) → IsMarked m false p
