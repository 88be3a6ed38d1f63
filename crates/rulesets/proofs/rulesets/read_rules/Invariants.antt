use Rattle.rulesets.proofs.Filling.{Filled}
use Rattle.rulesets.proofs.rulesets.read_rules.Given as goal
use Rattle.rulesets.specs.Rulesets.{SetsOf}
use Rattle.std.proofs.Common.{length}
use Rattle.table.specs.Tables.{contents_of, nth_rule, rules_of}

-- the rules before rule i are read
abbrev pub invariant-loop-i : goal.invariant-loop-i
invariant-loop-i l = Filled (λ i s. SetsOf (contents_of l.table) (nth_rule l.table i) s) 1024 (length (rules_of l.table)) l.rules l.i
