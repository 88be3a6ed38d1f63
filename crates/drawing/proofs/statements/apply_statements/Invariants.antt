use Rattle.std.proofs.Common.{◌≡◌, ℕ, ◌<◌, length}
use Rattle.drawing.proofs.statements.apply_statements.Given as goal
use Rattle.drawing.specs.Deriving.{Derived}
use Rattle.drawing.specs.Passing.{StatementPassed}
use Rattle.drawing.specs.Sweeps.{AllStanding, Counted}
use Rattle.semantics.specs.Families.{Values}
use Rattle.table.specs.Contents.{program}
use Rattle.table.specs.Tables.{program_of, rules_of}

-- the statements before this one are done
abbrev pub invariant-loop-statement : goal.invariant-loop-statement
invariant-loop-statement l =
    (value : Values) → Counted value (rules_of l.table) (length (rules_of l.table)) l.initial.marking l.supports.by
    → Derived value (program_of l.table) l.initial.marking l.marking
    × (l.marking ≡ l.initial.marking → AllStanding value (rules_of l.table) l.initial.marking l.supports.by → (q : ℕ) → q < l.statement → StatementPassed value (rules_of l.table) l.initial.marking q)
