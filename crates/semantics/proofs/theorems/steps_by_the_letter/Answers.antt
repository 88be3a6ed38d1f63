use Rattle.semantics.proofs.Letter.{by_the_letter}
use Rattle.semantics.proofs.theorems.steps_by_the_letter.Goals as goal

pub returns : goal.returns
returns c = by_the_letter
