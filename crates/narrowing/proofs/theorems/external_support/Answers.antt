use Rattle.narrowing.proofs.Unfounded.{external_support}
use Rattle.narrowing.proofs.theorems.external_support.Goals as goal

pub returns : goal.returns
returns c = external_support
