use Rattle.judging.proofs.Runs.{whole_run}
use Rattle.judging.proofs.LiteralRuns.{with_literal}
use Rattle.judging.proofs.literals.judge_literals.Goals as goal
use Rattle.table.specs.Tables.{contents_of}
use Rattle.std.proofs.Common.{arith}

pub loop-k-preserved : goal.loop-k-preserved
loop-k-preserved c = (
  (λ h. omega (arith, c.loop-k-test.true)),
  λ ls inside h.
      let all = (contents_of c.args.table.now).literals in
      let m = c.args.marking.now in
      let t = c.loop-k-test.true in
      with_literal m all c.args.run.end c.loop-k.k c.args.present ls c.and-all.result (omega arith) c.loop-k.auto.k inside c.literal-statement.result c.literal-statement.ensures.value
      (c.and-all.ensures m _ c.mark.ensures (c.loop-k.invariant.1 ls inside h)),
)

pub returns : goal.returns
returns c = λ qs ls cover h.
    let whole = whole_run (contents_of c.args.table.now).literals qs c.args.run c.loop-k.k cover c.loop-k.invariant.0 c.loop-k-test.false in
    rw whole at (c.loop-k.invariant.1 ls cover.inside h)
