use Rattle.judging.proofs.BodyVerdicts.{against_refuted, body_is}
use Rattle.judging.proofs.rulebook.Rulebook.judge_body.Goals as goal
use Rattle.judging.specs.Rulebooks.{rule_in}
use Rattle.judging.specs.declared.literals.Literals.TheVariants.{Against}
use Rattle.std.proofs.Common.{◌≡◌, rules}

pub returns-then-eq : goal.returns-then-eq
returns-then-eq g c =
    let r = rule_in c.args.self.now c.args.i in
    let against : c.body_literals-literals.result ≡ Against = search rules in
    against_refuted (g.F.Family.value c.args.self.now.family.now) c.args.marking.now r (rw against at (c.body_literals-literals.ensures r c.rule-rule.ensures))

pub returns : goal.returns
returns g c =
    let r = rule_in c.args.self.now c.args.i in
    rw c.body_of.ensures
    (body_is (g.F.Family.value c.args.self.now.family.now) c.args.marking.now r c.body_literals-literals.result c.judge_aggregates.result
    (c.body_literals-literals.ensures r c.rule-rule.ensures)
    (c.judge_aggregates.ensures r.aggregates c.rule-rule.ensures.aggregates))
