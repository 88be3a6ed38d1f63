-- What a tally's kind tells of its number.
use Rattle.family.specs.Tallies.{AreNumbers, Numbered}
use Rattle.family.specs.declared.kind.LackingKind.{LackingKind}
use Rattle.std.proofs.Common.{◌≡◌, ℕ, ◌≤◌, Option, Result, Ok, Err, subst, MatchOption}

pub kind_is : {K : Type 0} (number : K → ℕ) (kinds : ℕ) {gives : ℕ → Result K LackingKind → Type 0} → AreNumbers number kinds gives → (k : ℕ) (kind : Option K) → Numbered gives kind k → MatchOption kind (kinds ≤ k) (λ it. number it ≡ k)
kind_is number kinds are k kind (Ok it, n, e) = subst (λ o. MatchOption o (kinds ≤ k) (λ it. number it ≡ k)) e (are k _ n)
kind_is number kinds are k kind (Err x, n, e) = subst (λ o. MatchOption o (kinds ≤ k) (λ it. number it ≡ k)) e (are k _ n).1
