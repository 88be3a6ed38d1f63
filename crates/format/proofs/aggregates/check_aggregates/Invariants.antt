use Rattle.format.proofs.aggregates.check_aggregates.Given as goal
use Rattle.format.specs.Aggregates.{aggregate_faults}

abbrev pub ghost-check_each : goal.ghost-check_each
ghost-check_each a = aggregate_faults a.check.0.now
