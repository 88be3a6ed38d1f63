use Rattle.judging.proofs.Runs.{whole_run}
use Rattle.rulesets.proofs.SetRuns.{any_more}
use Rattle.rulesets.proofs.ruleset.member_set.Goals as goal
use Rattle.rulesets.specs.Rulesets.{has_member}
use Rattle.std.proofs.Common.{arith, false, refl}
use Rattle.table.specs.Tables.{contents_of}
use Rattle.table.specs.View.{no_aggregate}

pub loop-j-preserved : goal.loop-j-preserved
loop-j-preserved c = (
  (λ h. omega (arith, c.loop-j-test.true)),
  λ inside q.
      let t = c.loop-j-test.true in
      any_more (λ g. has_member q g.members) (contents_of c.args.table.now).aggregates c.args.run.end c.loop-j.j no_aggregate (omega arith) c.loop-j.auto.j inside _ refl false _ _
      (c.loop-j.invariant.1 inside q) (c.with_members-set.ensures _ c.aggregate.ensures.members q),
)

pub returns : goal.returns
returns c = λ gs cover.
    let whole = whole_run (contents_of c.args.table.now).aggregates gs c.args.run c.loop-j.j cover c.loop-j.invariant.0 c.loop-j-test.false in
    rw whole at (c.loop-j.invariant.1 cover.inside)
