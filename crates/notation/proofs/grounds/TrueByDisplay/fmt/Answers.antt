use Rattle.std.proofs.Common.{w32, rules}
use Rattle.std.proofs.Output.{has_written_of_eq}
use Rattle.notation.proofs.Grounding.{true_by_shown}
use Rattle.notation.proofs.grounds.TrueByDisplay.fmt.Goals as goal
use Rattle.std.proofs.lemmas.Int.{to_z-of_z}

pub returns-clause-writes : goal.returns-clause-writes
returns-clause-writes g c = λ plain ok.
    let aggregate = c.aggregate-aggregate in
    has_written_of_eq _ _ _ _ _ (true_by_shown _ _ _ _ _ aggregate.ensures (to_z-of_z w32 aggregate.result.bound (search rules))) (c.writeln.ensures.writes plain ok)
