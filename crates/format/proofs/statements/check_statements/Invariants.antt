use Rattle.format.proofs.statements.check_statements.Given as goal
use Rattle.format.specs.Statements.{statement_faults, name_byte_faults, name_twice_faults}

abbrev pub ghost-check_each : goal.ghost-check_each
ghost-check_each a = statement_faults a.check.0.now

abbrev pub ghost-check_each-2 : goal.ghost-check_each-2
ghost-check_each-2 a = name_byte_faults a.check.0.now

abbrev pub ghost-check_each-3 : goal.ghost-check_each-3
ghost-check_each-3 a = name_twice_faults a.check.0.now
