use Rattle.search.proofs.memory.Memory.explained.Given as goal
use Rattle.search.specs.Nogoods.{Follows}

abbrev pub invariant-loop-statement : goal.invariant-loop-statement
invariant-loop-statement l = Follows l.self.nogoods.kept l.nogood l.explained
