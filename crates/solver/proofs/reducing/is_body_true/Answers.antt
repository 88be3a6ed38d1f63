use Rattle.solver.proofs.Bodies.{certain_is_true, true_is_certain}
use Rattle.solver.proofs.reducing.is_body_true.Goals as goal

pub returns : goal.returns
returns g c = λ whole.
    let table = c.args.judge.now.rules.now.table.now.bytes.now in
    ((λ e. certain_is_true table c.args.i _ _ whole (c.is_body_certain.ensures.0 e)), λ t. c.is_body_certain.ensures.1 (true_is_certain table c.args.i _ _ whole t))
