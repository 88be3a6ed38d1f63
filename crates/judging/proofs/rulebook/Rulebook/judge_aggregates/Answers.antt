use Rattle.judging.proofs.Runs.{whole_run}
use Rattle.family.specs.declared.reading.Verdict.TheVariants.{Impossible}
use Rattle.judging.proofs.BodyVerdicts.{impossible_before, judges_before}
use Rattle.judging.proofs.rulebook.Rulebook.judge_aggregates.Goals as goal
use Rattle.judging.specs.Rulebooks.{contents_in}
use Rattle.std.proofs.Common.{◌≡◌, rules, arith}

pub loop-j-preserved-then-ne : goal.loop-j-preserved-then-ne
loop-j-preserved-then-ne g c = (
  (λ h. omega (arith, c.loop-j-test.true)),
  λ inside.
      let t = c.loop-j-test.true in
      judges_before (g.F.Family.value c.args.self.now.family.now) c.args.marking.now (contents_in c.args.self.now).aggregates c.args.run.end c.loop-j.j (omega arith) c.loop-j.auto.j inside _ _ _ c.both-all.ensures (c.loop-j.invariant.1 inside) c.judge_aggregate.ensures,
)

pub loop-j-preserved : goal.loop-j-preserved
loop-j-preserved g c = (
  (λ h. omega (arith, c.loop-j-test.true)),
  λ inside.
      let t = c.loop-j-test.true in
      let never : c.loop-j.all ≡ Impossible = search rules in
      impossible_before (g.F.Family.value c.args.self.now.family.now) c.args.marking.now (contents_in c.args.self.now).aggregates c.args.run.end c.loop-j.j (omega arith) c.loop-j.auto.j inside c.loop-j.all never (c.loop-j.invariant.1 inside),
)

pub returns : goal.returns
returns g c = λ gs cover.
    let whole = whole_run (contents_in c.args.self.now).aggregates gs c.args.run c.loop-j.j cover c.loop-j.invariant.0 c.loop-j-test.false in
    rw whole at (c.loop-j.invariant.1 cover.inside)
