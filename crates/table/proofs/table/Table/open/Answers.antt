use Rattle.std.proofs.Common.{arith}
use Rattle.table.proofs.Limits.{within_limits}
use Rattle.table.proofs.table.Table.open.Goals as goal

pub returns-clause-limits : goal.returns-clause-limits
returns-clause-limits c = within_limits _ (λ k. let fits = c.type_inv.bytes k in omega arith)
