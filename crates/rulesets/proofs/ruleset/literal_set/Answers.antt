use Rattle.judging.proofs.Runs.{whole_run}
use Rattle.marking.specs.Sets.{contains}
use Rattle.rulesets.proofs.SetRuns.{any_more, just_one}
use Rattle.rulesets.proofs.ruleset.literal_set.Goals as goal
use Rattle.std.proofs.Common.{◌<◌, ◌∙◌, ◌||◌, ap, arith, false}
use Rattle.table.proofs.Limits.{names_few}
use Rattle.table.specs.Tables.{contents_of}

pub loop-k-preserved : goal.loop-k-preserved
loop-k-preserved c = (
  (λ h. omega (arith, c.loop-k-test.true)),
  λ inside q.
      let t = c.loop-k-test.true in
      let p = c.literal.result in
      let few : p < 128 = omega (arith, c.literal.ensures.known (omega arith), names_few c.args.table.now.bytes.now) in
      any_more _ (contents_of c.args.table.now).literals c.args.run.end c.loop-k.k 0 (omega arith) c.loop-k.auto.k inside p c.literal.ensures.value false _ _
      (c.loop-k.invariant.1 inside q) (c.with-set.ensures q ∙ ap (λ b. contains c.loop-k.set q || b) (just_one q p few)),
)

pub returns : goal.returns
returns c = λ qs cover.
    let whole = whole_run (contents_of c.args.table.now).literals qs c.args.run c.loop-k.k cover c.loop-k.invariant.0 c.loop-k-test.false in
    rw whole at (c.loop-k.invariant.1 cover.inside)
