use Rattle.format.proofs.aggregates.check_members.Given as goal
use Rattle.format.specs.Aggregates.{set_faults}

abbrev pub ghost-check_each : goal.ghost-check_each
ghost-check_each a = set_faults a.check.0.now
