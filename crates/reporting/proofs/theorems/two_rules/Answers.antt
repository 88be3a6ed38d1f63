use Rattle.reporting.proofs.Texts.{two_rules_reported}
use Rattle.reporting.proofs.theorems.two_rules.Goals as goal

pub returns : goal.returns
returns c = two_rules_reported
