use Rattle.marking.specs.Sets.{contains}
use Rattle.narrowing.proofs.narrower.Narrower.is_unfounded.Given as goal
use Rattle.narrowing.specs.Unfounded.{NoHelp}
use Rattle.rulesets.specs.Judging.{rule_in}
use Rattle.std.proofs.Common.{ℕ, ◌<◌}

-- the rules before this one are no help
abbrev pub invariant-loop-i : goal.invariant-loop-i
invariant-loop-i g l = (k : ℕ) → k < l.i → NoHelp (g.F.Family.value l.self.judge.family.now) l.marking (contains l.set) (rule_in l.self.judge k)
