use Rattle.rulesets.proofs.Marked.{set_marked}
use Rattle.rulesets.proofs.judge.Judge.is_head_out.Goals as goal
use Rattle.rulesets.specs.Judging.{rule_in}
use Rattle.semantics.specs.declared.Mark.TheVariants.{Out}

pub returns : goal.returns
returns g c =
    let out = set_marked c.args.marking.now Out c.rule.result.head (rule_in c.args.self.now c.args.i).head c.rule.ensures.head in
    ((λ e. out.0 (c.are_out.ensures.0 e)), λ h. c.are_out.ensures.1 (out.1 h))
