use Rattle.search.proofs.Resolving.{resolved_either}
use Rattle.search.proofs.standing.resolved.Goals as goal
use Rattle.std.proofs.Common.{refl}

pub returns : goal.returns
returns c =
    resolved_either c.args.nogood.now c.args.reason.now _ _ c.args.statement _ _ _
    c.mark.ensures c.mark-2.ensures (c.if-not-are_contrary.ensures refl) c.with-rest.ensures c.with.ensures c.both.ensures
