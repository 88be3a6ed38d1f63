use Rattle.rulesets.proofs.Filling.{Filled}
use Rattle.rulesets.proofs.rulesets.read_members.Given as goal
use Rattle.rulesets.specs.Reading.{MemberRead}

-- the members before place k are read
abbrev pub invariant-loop-k : goal.invariant-loop-k
invariant-loop-k l = Filled (MemberRead l.table) 2048 2048 l.members l.k
