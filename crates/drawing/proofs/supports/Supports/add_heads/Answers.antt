use Rattle.drawing.proofs.Supporting.{added_next}
use Rattle.drawing.proofs.supports.Supports.add_heads.Goals as goal
use Rattle.table.specs.Tables.{contents_of}
use Rattle.std.proofs.Common.{arith}

pub loop-k-preserved : goal.loop-k-preserved
loop-k-preserved c = (
  (λ h. omega (arith, c.loop-k-test.true)),
  λ inside.
      let t = c.loop-k-test.true in
      added_next c.args.self.now.by c.loop-k.self.by c.add_rule.new.self.by (contents_of c.args.table.now).literals c.args.head.end c.loop-k.k c.args.rule c.literal.result (omega arith) c.loop-k.auto.k inside c.literal.ensures.value (c.loop-k.invariant.1 inside) c.add_rule.ensures,
)
