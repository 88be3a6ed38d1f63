use Rattle.format.proofs.rules.check_literals.Given as goal
use Rattle.format.specs.Rules.{literal_faults}

abbrev pub ghost-check_each : goal.ghost-check_each
ghost-check_each a = literal_faults a.check.0.now
