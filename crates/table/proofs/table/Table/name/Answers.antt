use Rattle.table.proofs.Names.{name_is_text}
use Rattle.table.proofs.table.Table.name.Goals as goal

pub from_utf8_unchecked-requires : goal.from_utf8_unchecked-requires
from_utf8_unchecked-requires c = rw c.name_bytes.ensures (name_is_text c.args.self.now.bytes.now c.args.statement)
