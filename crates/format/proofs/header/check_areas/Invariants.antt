use Rattle.std.proofs.Common.{◌≡◌, ℕ, ◌<◌, []}
use Rattle.format.proofs.Verdicts.{at_area}
use Rattle.format.proofs.header.check_areas.Given as goal

abbrev pub invariant-loop-area : goal.invariant-loop-area
invariant-loop-area g l = (k : ℕ) → k < l.area-index → at_area g.found k ≡ []
