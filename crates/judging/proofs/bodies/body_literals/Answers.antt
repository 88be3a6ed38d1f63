use Rattle.judging.proofs.bodies.body_literals.Goals as goal
use Rattle.std.proofs.lemmas.List.{append-nil}
use Rattle.std.proofs.Common.{[]}

pub returns : goal.returns
returns c = λ r shows. c.judge_literals.ensures r.positive _ shows.positive (simp append-nil at (c.judge_literals-negatives.ensures r.negative [] shows.negative (λ l i. absurd i)))
