-- The end of a loop that goes over the places of a run from the last to the first.
use Rattle.std.proofs.Common.{◌≡◌, ℕ, ◌≤◌, List, arith}
use Rattle.table.proofs.Tails.{tail, tail_all}
use Rattle.table.specs.View.{Covers}
use Rattle.table.specs.declared.table.Run.{Run}

-- at the first place the whole run is done
pub whole_run : {X : Type 0} (all xs : List X) (r : Run) (k : ℕ) → Covers all xs r → (r.first ≤ r.end → r.first ≤ k) → k ≤ r.first → tail all r.end k ≡ xs
whole_run all xs r k c first last = let h = first c.forward in tail_all all xs r k c (omega arith)
