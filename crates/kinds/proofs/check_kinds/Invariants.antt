use Rattle.std.proofs.Common.{◌≡◌, ℕ, ◌<◌, []}
use Rattle.kinds.proofs.check_kinds.Given as goal
use Rattle.kinds.specs.Lacking.{kind_faults}

-- no aggregate before j has a fault
abbrev pub invariant-loop-j : goal.invariant-loop-j
invariant-loop-j g l = (k : ℕ) → k < l.j → kind_faults (g.F.Family.size l.family) l.table.bytes.now k ≡ []
