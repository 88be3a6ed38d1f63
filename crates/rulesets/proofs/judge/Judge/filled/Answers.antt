use Rattle.judging.proofs.Filling.{one_more_filled}
use Rattle.rulesets.proofs.judge.Judge.filled.Goals as goal
use Rattle.std.proofs.lemmas.Int.{to_z-of_z}
use Rattle.rulesets.specs.Judging.{contents_in}
use Rattle.std.proofs.Common.{length, arith, w32, SFits, rules}

pub loop-k-preserved : goal.loop-k-preserved
loop-k-preserved g c = (
  (λ h. omega (arith, c.loop-k-test.true)),
  λ inside few.
      let t = c.loop-k-test.true in
      let a = c.member-member in
      let fits : SFits w32 a.result.weight = search rules in
      let tallies = g.F.Family.tallies c.args.self.now.family.now in
      let members = c.args.members in
      one_more_filled c.args.marking.now (contents_in c.args.self.now).members members.first members.end c.loop-k.k (length (contents_in c.args.self.now).names) t c.loop-k.auto.k inside few
      (tallies c.loop-k.tally c.args.kind) (tallies c.add_marked.new.tally c.args.kind) a.result c.mark-mark.result a.ensures.value (a.ensures.limits (omega arith)) c.mark-mark.ensures
      ((simp to_z-of_z at c.add_marked.ensures) c.args.kind) (c.loop-k.invariant.1 inside few),
)
