use Rattle.inspection.proofs.Worked.{two_rules_inspected}
use Rattle.inspection.proofs.theorems.two_rules.Goals as goal

pub returns : goal.returns
returns c = two_rules_inspected
