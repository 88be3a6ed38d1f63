use Rattle.notation.proofs.Worked.{marks_worked}
use Rattle.notation.proofs.theorems.mark_examples.Goals as goal

pub returns : goal.returns
returns c = marks_worked
