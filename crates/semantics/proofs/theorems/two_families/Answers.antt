use Rattle.semantics.proofs.Families.{two_families}
use Rattle.semantics.proofs.theorems.two_families.Goals as goal

pub returns : goal.returns
returns c = two_families
