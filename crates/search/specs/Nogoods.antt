-- Nogoods: markings with which no row that fits agrees, what follows from them, and what they show under a marking.
use Rattle.std.specs.Prelude.{◌≡◌, ℕ, ◌<◌, ◌⊎◌, Bool, List, length, Some, None, Option, Result, MatchResult, ◌≢◌, slice_index_or}
use Rattle.marking.specs.declared.marking.Marking.{Marking}
use Rattle.search.specs.declared.problem.Judgement.{Judgement}
use Rattle.search.specs.declared.problem.Judgement.TheVariants.{Fits, Fails}
use Rattle.search.specs.declared.standing.Standing.{Standing}
use Rattle.search.specs.declared.standing.Standing.TheVariants.{Met, Lacks}
use Rattle.semantics.specs.Markings.{at, marked, Agrees, Below}
use Rattle.semantics.specs.declared.Mark.{Mark}
use Rattle.semantics.specs.declared.Mark.TheVariants.{Open}

-- no row that fits agrees with it
abbrev pub Nogood : (List Bool → Type 0) → List Mark → Type 0
Nogood fits n = (s : List Bool) → fits s → Agrees n s → ⊥

-- a row of so many statements that fits
pub record Fitting (fits : List Bool → Type 0) (size : ℕ) (s : List Bool) : Type 0 where
  pub long : length s ≡ size
  pub fitting : fits s

-- that the row fits, or that it does not, and a nogood
abbrev pub Judged : (List Bool → Type 0) → List Bool → Judgement → Type 0
Judged fits row Fits = fits row
Judged fits row (Fails n) = (fits row → ⊥) × Nogood fits n

-- n has the marks of m and perhaps more, and no row that fits is lost
pub record Narrows (fits : List Bool → Type 0) (m n : List Mark) : Type 0 where
  pub long : length n ≡ length m
  pub adds : Below m n
  pub keeps : (s : List Bool) → fits s → Agrees m s → Agrees n s

-- all marks of n are met in m but that of q, which is open there
pub record LacksOne (m n : List Mark) (q : ℕ) : Type 0 where
  pub inside : q < length m
  pub open_there : at m q ≡ Open
  pub here : at n q ≢ Open
  pub others : (k : ℕ) (x : Bool) → k ≢ q → at n k ≡ marked x → at m k ≡ marked x

-- how n stands under m
abbrev pub StandingIs : List Mark → List Mark → Standing → Type 0
StandingIs m n Met = Below n m
StandingIs m n (Lacks q) = LacksOne m n q

-- a row that agrees with r agrees with a or with b
abbrev pub EitherAgrees : List Mark → List Mark → List Mark → Type 0
EitherAgrees a b r = (s : List Bool) → Agrees r s → Agrees a s ⊎ Agrees b s

-- what is kept at a place
abbrev pub kept_at : List (Option Marking) → ℕ → Option Marking
kept_at kept k = slice_index_or kept k None

-- the row agrees with a nogood that is kept
pub record Excluded (kept : List (Option Marking)) (s : List Bool) : Type 0 where
  pub place : ℕ
  pub nogood : List Mark
  pub stands : kept_at kept place ≡ Some nogood
  pub agrees : Agrees nogood s

-- n is kept, or follows from what is
abbrev pub Known : List (Option Marking) → List Mark → Type 0
Known kept n = (s : List Bool) → Agrees n s → Excluded kept s

-- no row that fits agrees with what is kept
pub record Sound (fits : List Bool → Type 0) (kept : List (Option Marking)) : Type 0 where
  pub none : (s : List Bool) → fits s → Excluded kept s → ⊥

-- n follows from a nogood and those that are kept
abbrev pub Follows : List (Option Marking) → List Mark → List Mark → Type 0
Follows kept given n = (s : List Bool) → Agrees n s → Agrees given s ⊎ Excluded kept s

-- nothing more is kept afterwards than a nogood
abbrev pub Grown : List (Option Marking) → List Mark → List (Option Marking) → Type 0
Grown kept given after = (s : List Bool) → Excluded after s → Agrees given s ⊎ Excluded kept s

-- n follows from one of two nogoods and those that are kept
abbrev pub FollowsFromEither : List (Option Marking) → List Mark → List Mark → List Mark → Type 0
FollowsFromEither kept given whole n = (s : List Bool) → Agrees n s → Agrees whole s ⊎ (Agrees given s ⊎ Excluded kept s)

-- what narrowing a marking comes to: a marking, or a nogood, and then the first marking is one too
pub record Shown (fits : List Bool → Type 0) (kept : List (Option Marking)) (start : List Mark) (r : Result Marking Marking) : Type 0 where
  pub sound : Sound fits kept
  pub narrowed : MatchResult r (Narrows fits start) (λ n. Nogood fits n × Nogood fits start)

abbrev pub NarrowedTo : (List Bool → Type 0) → List (Option Marking) → List (Option Marking) → List Mark → Result Marking Marking → Type 0
NarrowedTo fits before after start r = Sound fits before → Shown fits after start r
