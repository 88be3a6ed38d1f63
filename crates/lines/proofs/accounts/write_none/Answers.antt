use Rattle.std.proofs.Common.{arith}
use Rattle.lines.proofs.Following.{in_front}
use Rattle.lines.proofs.accounts.write_none.Goals as goal

pub returns : goal.returns
returns c = in_front 4620 (omega arith) c.put.ensures
