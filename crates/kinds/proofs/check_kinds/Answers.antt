use Rattle.format.proofs.Verdicts.{each_leaves}
use Rattle.kinds.proofs.Verdicts.{demanded, ok_if_known, passed}
use Rattle.kinds.proofs.check_kinds.Goals as goal
use Rattle.std.proofs.Common.{arith, sym, ◌∙◌}

pub returns-in_err-demand : goal.returns-in_err-demand
returns-in_err-demand g c =
    let fault = demanded _ _ c.loop-j.j (c.aggregate.ensures.kind ∙ sym c.from-kind.ensures) c.kinds-kinds.ensures c.kind_place.ensures (omega arith) c.in_err-demand.ensures in
    let first = each_leaves _ _ _ _ _ c.from_residual.ensures.1 fault (omega arith) c.loop-j.invariant in
    record { first = first; known = ok_if_known _ _ _ first }

pub returns : goal.returns
returns g c =
    let first = passed _ _ c.loop-j.invariant (omega arith) in
    record { first = first; known = ok_if_known _ _ _ first }
