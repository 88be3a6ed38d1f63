use Rattle.daybook.proofs.Worked.{worked}
use Rattle.daybook.proofs.theorems.examples.Goals as goal

pub returns : goal.returns
returns c = worked
