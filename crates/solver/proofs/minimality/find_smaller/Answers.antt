use Rattle.solver.proofs.Minimal.{smaller_sought}
use Rattle.solver.proofs.minimality.find_smaller.Goals as goal
use Rattle.solver.specs.declared.parts.Parts.{Parts}
use Rattle.std.proofs.Common.{refl}

pub returns : goal.returns
returns c = λ whole.
    let p : Parts = record { rules = c.args.rules; mentions = c.args.mentions; row = c.args.row; reduct = c.args.reduct } in
    smaller_sought p _ refl whole.long c.earliest.result (rw c.removable.ensures at c.earliest.ensures)
