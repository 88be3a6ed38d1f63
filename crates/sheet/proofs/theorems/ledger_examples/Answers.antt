use Rattle.sheet.proofs.Ledgers.{ledger_examples}
use Rattle.sheet.proofs.theorems.ledger_examples.Goals as goal

pub returns : goal.returns
returns c = ledger_examples
