use Rattle.lines.proofs.accounts.write_found.Given as goal
use Rattle.lines.proofs.Steps.{first_lines}
use Rattle.lines.specs.Reports.{Written}
use Rattle.table.specs.Tables.{contents_of}

abbrev pub invariant-loop-statement : goal.invariant-loop-statement
invariant-loop-statement l = Written (first_lines (contents_of l.table).names l.marks l.statement) l.fn.out l.out l.at
