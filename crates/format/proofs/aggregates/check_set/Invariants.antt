use Rattle.format.proofs.aggregates.check_set.Given as goal
use Rattle.format.specs.Aggregates.{member_faults}

abbrev pub ghost-check_each : goal.ghost-check_each
ghost-check_each a = member_faults a.check.0.now a.check.1
