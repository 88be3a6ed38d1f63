use Rattle.format.proofs.header.check_header.Given as goal
use Rattle.format.specs.Header.{count_faults, offset_faults}

abbrev pub ghost-check_areas : goal.ghost-check_areas
ghost-check_areas a = count_faults a.check.0.now

abbrev pub ghost-check_areas-2 : goal.ghost-check_areas-2
ghost-check_areas-2 a = offset_faults a.check.0.now
