use Rattle.narrowing.proofs.Blocking.{one_more_no_help, unfounded_from, unfounded_no_help}
use Rattle.narrowing.proofs.Unfounded.{unfounded_excludes}
use Rattle.narrowing.proofs.narrower.Narrower.is_unfounded.Goals as goal
use Rattle.rulesets.specs.Judging.{program_in, rule_in}
use Rattle.std.proofs.Common.{arith, refl}
use Rattle.std.proofs.lemmas.Bool.{both_ways, false≢true}

pub returns-then-not-is_no_help-clause-unfounded : goal.returns-then-not-is_no_help-clause-unfounded
returns-then-not-is_no_help-clause-unfounded g c = (
  (λ e. absurd (false≢true e)),
  λ f. absurd (both_ways c.is_no_help.result c.if-not-is_no_help.true (c.is_no_help.ensures.1 (unfounded_no_help _ (program_in c.args.self.now.judge).rules c.args.marking.now c.args.set c.loop-i.i (omega (arith, c.loop-i-test.true, c.rules-i-end.ensures)) f))),
)

pub loop-i-preserved : goal.loop-i-preserved
loop-i-preserved g c = one_more_no_help _ _ _ (rule_in c.args.self.now.judge) c.loop-i.i c.loop-i.invariant (c.is_no_help.ensures.0 c.if-not-is_no_help.false)

pub returns-clause-unfounded : goal.returns-clause-unfounded
returns-clause-unfounded g c = (
  (λ e. unfounded_from _ (program_in c.args.self.now.judge).rules c.args.marking.now c.args.set c.loop-i.i (c.is_some_in.ensures.0 c.if-not-is_some_in.false) (omega (arith, c.loop-i-test.false, c.rules-i-end.ensures)) c.loop-i.invariant),
  λ f. refl,
)

pub returns-clause-excludes : goal.returns-clause-excludes
returns-clause-excludes g c e = unfounded_excludes _ _ _ _ ((returns-clause-unfounded g c).0 e)
