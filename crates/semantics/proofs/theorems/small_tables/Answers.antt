use Rattle.semantics.proofs.SmallTables.{small_tables}
use Rattle.semantics.proofs.theorems.small_tables.Goals as goal

pub returns : goal.returns
returns c = small_tables
