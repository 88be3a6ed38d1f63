use Rattle.rulesets.proofs.Filling.{filled_all, filled_more, filled_none}
use Rattle.rulesets.proofs.rulesets.read_members.Goals as goal
use Rattle.std.proofs.Common.{arith}

pub loop-k-init : goal.loop-k-init
loop-k-init c = filled_none _ 2048 2048 _ (λ k l past. absurd (omega arith))

pub loop-k-preserved : goal.loop-k-preserved
loop-k-preserved c = filled_more _ 2048 2048 _ c.loop-k.k c.member.result (omega arith) c.loop-k.invariant (c.member.ensures.value, c.member.ensures.limits)

pub returns : goal.returns
returns c = filled_all _ 2048 2048 c.loop-k.members c.loop-k.k c.loop-k.invariant (omega arith)
