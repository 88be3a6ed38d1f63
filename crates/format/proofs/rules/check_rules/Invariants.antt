use Rattle.format.proofs.rules.check_rules.Given as goal
use Rattle.format.specs.Rules.{rule_faults}

abbrev pub ghost-check_each : goal.ghost-check_each
ghost-check_each a = rule_faults a.check.0.now
