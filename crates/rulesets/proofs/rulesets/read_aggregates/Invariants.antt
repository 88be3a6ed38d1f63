use Rattle.rulesets.proofs.Filling.{Filled}
use Rattle.rulesets.proofs.rulesets.read_aggregates.Given as goal
use Rattle.std.proofs.Common.{length}
use Rattle.table.specs.Tables.{contents_of, nth_aggregate}
use Rattle.table.specs.View.{ShowsAggregate}

-- the aggregates before aggregate j are read
abbrev pub invariant-loop-j : goal.invariant-loop-j
invariant-loop-j l = Filled (λ j g. ShowsAggregate (contents_of l.table) (nth_aggregate l.table j) g) 1024 (length (contents_of l.table).aggregates) l.aggregates l.j
