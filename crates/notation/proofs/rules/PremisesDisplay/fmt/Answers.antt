use Rattle.std.proofs.Output.{has_written_of_eq}
use Rattle.notation.proofs.Placed.{premises_row}
use Rattle.notation.proofs.rules.PremisesDisplay.fmt.Goals as goal
use Rattle.table.specs.Tables.{contents_of}

pub returns-clause-writes : goal.returns-clause-writes
returns-clause-writes g c = λ plain ok.
    has_written_of_eq _ _ _ _ _ (premises_row (contents_of c.args.self.now.table) c.args.self.now.rule _ _ c.body-body.ensures c.sign_between-sign.ensures) (c.write.ensures.writes plain ok)
