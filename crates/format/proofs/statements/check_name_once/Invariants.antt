use Rattle.format.proofs.statements.check_name_once.Given as goal
use Rattle.format.specs.Statements.{same_name_faults}

abbrev pub ghost-check_each : goal.ghost-check_each
ghost-check_each a = same_name_faults a.check.0.now a.check.1
