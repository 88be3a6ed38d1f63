use Rattle.notation.proofs.Worked.{worked}
use Rattle.notation.proofs.theorems.examples.Goals as goal

pub returns : goal.returns
returns c = worked
