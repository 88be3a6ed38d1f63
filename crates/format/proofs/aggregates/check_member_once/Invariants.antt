use Rattle.format.proofs.aggregates.check_member_once.Given as goal
use Rattle.format.specs.Aggregates.{same_member_faults}

abbrev pub ghost-check_each : goal.ghost-check_each
ghost-check_each a = same_member_faults a.check.0.now a.check.1 a.check.2
