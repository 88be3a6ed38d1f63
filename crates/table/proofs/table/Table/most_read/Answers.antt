use Rattle.std.proofs.Common.{arith}
use Rattle.table.proofs.Clean.{few_bytes}
use Rattle.table.proofs.table.Table.most_read.Goals as goal

pub returns-clause-enough : goal.returns-clause-enough
returns-clause-enough c = λ b ok. omega (arith, few_bytes b ok, c.longest.ensures)
