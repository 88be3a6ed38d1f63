-- The bags that a tally stands for.
use Rattle.family.specs.Spans.{Spans}
use Rattle.family.specs.Sums.{above_zero, below_zero, sum_by}
use Rattle.family.specs.declared.summary.Summary.{Summary}
use Rattle.family.specs.declared.kind.LackingKind.{LackingKind}
use Rattle.family.specs.declared.tally.Tally.{Tally}
use Rattle.std.specs.Prelude.{◌≡◌, ℕ, ◌≤◌, List, length, ℤ, Option, Result, MatchResult}
use Rattle.std.specs.Result.{result_ok}

-- the result is the kind with this number, or the error has a number that is past those of all kinds
abbrev pub Numbers : {K : Type 0} → (K → ℕ) → ℕ → ℕ → Result K LackingKind → Type 0
Numbers number kinds k r = MatchResult r (λ kind. number kind ≡ k) (λ e. (e.0 ≡ k) × (kinds ≤ k))

-- and so for every number that turns into a kind, or into an error
abbrev pub AreNumbers : {K : Type 0} → (K → ℕ) → ℕ → (ℕ → Result K LackingKind → Type 0) → Type 0
AreNumbers {K} number kinds gives = (k : ℕ) (r : Result K LackingKind) → gives k r → Numbers number kinds k r

-- this is the kind that the number k turns into, or it turns into none
abbrev pub Numbered : {K : Type 0} → (ℕ → Result K LackingKind → Type 0) → Option K → ℕ → Type 0
Numbered {K} gives kind k = (r : Result K LackingKind) × gives k r × (result_ok r ≡ kind)

-- the summary has the numbers of this bag
pub record Keeps (k : Summary) (v : List ℤ) : Type 0 where
  pub count : k.count ≡ length v
  pub below : k.below ≡ sum_by below_zero v
  pub above : k.above ≡ sum_by above_zero v
  pub extremes : Spans k.extremes v

-- the tally is of this kind and has the numbers of these bags
pub record Tallies {K : Type 0} (gives : ℕ → Result K LackingKind → Type 0) (t : Tally K) (k : ℕ) (s o : List ℤ) : Type 0 where
  pub kind : Numbered gives t.kind k
  pub sure : Keeps t.sure s
  pub opens : Keeps t.open o
