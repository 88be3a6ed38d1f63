use Rattle.std.proofs.Common.{◌≡◌, ℕ, ◌<◌}
use Rattle.semantics.proofs.rows.precedes.Given as goal
use Rattle.semantics.specs.Rows.{has}

abbrev pub invariant-loop-q : goal.invariant-loop-q
invariant-loop-q l = (k : ℕ) → k < l.q → has l.row k ≡ has l.other k
