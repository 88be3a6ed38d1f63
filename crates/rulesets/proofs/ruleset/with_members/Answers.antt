use Rattle.judging.proofs.Runs.{whole_run}
use Rattle.marking.specs.Sets.{contains}
use Rattle.rulesets.proofs.SetRuns.{any_more, just_one}
use Rattle.rulesets.proofs.ruleset.with_members.Goals as goal
use Rattle.std.proofs.Common.{◌<◌, ◌∙◌, ◌||◌, ◌==◌, ap, arith}
use Rattle.table.proofs.Limits.{names_few}
use Rattle.table.specs.Tables.{contents_of}
use Rattle.table.specs.View.{no_member}

pub loop-k-preserved : goal.loop-k-preserved
loop-k-preserved c = (
  (λ h. omega (arith, c.loop-k-test.true)),
  λ inside q.
      let t = c.loop-k-test.true in
      let a = c.member.result in
      let limits = c.member.ensures.limits (omega arith) in
      let few : a.statement < 128 = omega (arith, limits.known, names_few c.args.table.now.bytes.now) in
      any_more (λ x. x.statement == q) (contents_of c.args.table.now).members c.args.run.end c.loop-k.k no_member (omega arith) c.loop-k.auto.k inside a c.member.ensures.value (contains c.args.before q) _ _
      (c.loop-k.invariant.1 inside q) (c.with-set.ensures q ∙ ap (λ b. contains c.loop-k.set q || b) (just_one q a.statement few)),
)

pub returns : goal.returns
returns c = λ ms cover.
    let whole = whole_run (contents_of c.args.table.now).members ms c.args.run c.loop-k.k cover c.loop-k.invariant.0 c.loop-k-test.false in
    rw whole at (c.loop-k.invariant.1 cover.inside)
