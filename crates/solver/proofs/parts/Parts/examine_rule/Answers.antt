use Rattle.solver.proofs.Judgements.{nogood_then}
use Rattle.solver.proofs.Pruning.{kept_nogood}
use Rattle.solver.proofs.parts.Parts.examine_rule.Goals as goal
use Rattle.solver.specs.Parts.{SmallerBy}
use Rattle.std.proofs.Common.{◌∙◌, arith, sym}

pub returns : goal.returns
returns c =
    let p = c.args.self.now in
    let nogood = kept_nogood p c.args.i (omega (arith, c.if-i-rules.false, c.rules.ensures)) (sym c.has.ensures ∙ c.if-not-has.false) c.in_ok-nogood.nogood c.in_ok-nogood.ensures in
    nogood_then (SmallerBy p) c.in_ok-nogood.nogood c.is_near.result nogood c.then_some.result c.then_some.ensures
