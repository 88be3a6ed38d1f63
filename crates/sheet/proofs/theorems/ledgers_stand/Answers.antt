use Rattle.sheet.proofs.Ledgers.{ledgers_stand}
use Rattle.sheet.proofs.theorems.ledgers_stand.Goals as goal

pub returns : goal.returns
returns c = ledgers_stand
