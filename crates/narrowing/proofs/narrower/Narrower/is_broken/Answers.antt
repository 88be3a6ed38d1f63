use Rattle.narrowing.proofs.Unfounded.{broken_excludes}
use Rattle.narrowing.proofs.narrower.Narrower.is_broken.Goals as goal
use Rattle.rulesets.specs.Judging.{rule_in}
use Rattle.semantics.proofs.Lists.{among_at}

pub returns-then-has_rule-clause-excludes : goal.returns-then-has_rule-clause-excludes
returns-then-has_rule-clause-excludes g c e =
    let refused = c.is_refused.ensures.0 e in
    broken_excludes _ _ _ (rule_in c.args.self.now.judge c.args.i, among_at _ c.args.i _ (c.has_rule.ensures.0 c.if-has_rule.true), refused.0, refused.1)
