use Rattle.judging.proofs.literals.judge_head.Goals as goal
use Rattle.std.proofs.lemmas.List.{append-nil}
use Rattle.std.proofs.Common.{[]}

pub returns : goal.returns
returns c = simp append-nil at (c.judge_literals.ensures _ [] c.rule.ensures.head (λ l i. absurd i))
