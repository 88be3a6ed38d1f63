-- From what a level of a search begins, and what it comes to.
use Rattle.std.specs.Prelude.{◌≡◌, ℕ, Bool, List, length, Option}
use Rattle.marking.specs.declared.marking.Marking.{Marking}
use Rattle.search.specs.Nogoods.{Fitting, Narrows, Nogood, Sound, StandingIs}
use Rattle.search.specs.Search.{EarliestSolution}
use Rattle.search.specs.declared.level.Level.{Level}
use Rattle.search.specs.declared.outcome.Outcome.{Outcome}
use Rattle.search.specs.declared.outcome.Outcome.TheVariants.{Failed, Found}
use Rattle.semantics.specs.declared.Mark.{Mark}

-- the first marking of a level stands as a nogood under the marking above as the level says
abbrev pub Stands : Level → Type 0
Stands level = StandingIs level.above.now level.whole level.standing

-- a failure's nogood stands under the marking above as the failure says
abbrev pub FailureStands : List Mark → Outcome → Type 0
FailureStands above (Found m) = Unit {0}
FailureStands above (Failed f) = StandingIs above f.nogood f.standing

-- the start is of the problem's length, and narrowed from the first marking of a level
pub record Begun (fits : List Bool → Type 0) (size : ℕ) (whole : List Mark) (kept : List (Option Marking)) (start : List Mark) : Type 0 where
  pub long : length start ≡ size
  pub sound : Sound (Fitting fits size) kept
  pub narrows : Narrows (Fitting fits size) whole start

-- the earliest solution, or a nogood that shows why there is none
abbrev pub OutcomeIs : (List Bool → Type 0) → ℕ → List Mark → Outcome → Type 0
OutcomeIs fits size start (Found m) = EarliestSolution fits size start m
OutcomeIs fits size start (Failed f) = Nogood (Fitting fits size) f.nogood

pub record Ended (fits : List Bool → Type 0) (size : ℕ) (kept : List (Option Marking)) (start : List Mark) (r : Outcome) : Type 0 where
  pub sound : Sound (Fitting fits size) kept
  pub outcome : OutcomeIs fits size start r
