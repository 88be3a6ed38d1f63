use Rattle.rulesets.proofs.Marked.{body_certain, set_marked}
use Rattle.rulesets.proofs.judge.Judge.is_body_certain.Goals as goal
use Rattle.rulesets.proofs.judge.Judge.is_body_certain.Goals.{then-are_in, else-are_in}
use Rattle.rulesets.specs.Judging.{rule_in}
use Rattle.semantics.specs.declared.Mark.TheVariants.{In, Out}
use Rattle.std.proofs.Common.{◌∙◌, false, sym, true}
use Rattle.std.proofs.lemmas.Bool.{both_ways}

pub returns-then-are_out : goal.returns-then-are_out
returns-then-are_out g c =
    let r = rule_in c.args.self.now c.args.i in
    let m = c.args.marking.now in
    let sets = c.rule-rule.ensures in
    let inside = set_marked m In c.rule-rule.result.positive r.positive sets.positive in
    let outside = set_marked m Out c.rule-rule.result.negative r.negative sets.negative in
    let certain = c.are_certain.ensures r.aggregates sets.aggregates in
    elim c.if-are_in.branch [
      | then-are_in w ↦ (
        (λ e. body_certain (g.F.Family.value c.args.self.now.family.now) m r (inside.0 (c.are_in.ensures.0 w.if-are_in.true)) (outside.0 (w.are_out.ensures.0 (sym w.value-is ∙ c.if-are_out.true))) (certain.0 e)),
        λ b. certain.1 b.aggregate,
      )
      | else-are_in w ↦ absurd (both_ways c.if-are_in.value (w.value-is ∙ w.if-are_in.false) c.if-are_out.true)
    ]

pub returns-else-are_out : goal.returns-else-are_out
returns-else-are_out g c =
    let r = rule_in c.args.self.now c.args.i in
    let m = c.args.marking.now in
    let sets = c.rule-rule.ensures in
    let inside = set_marked m In c.rule-rule.result.positive r.positive sets.positive in
    let outside = set_marked m Out c.rule-rule.result.negative r.negative sets.negative in (
      (λ e. absurd (both_ways c.if-are_in.value c.if-are_out.false e)),
      λ b. elim c.if-are_in.branch [
        | then-are_in w ↦ w.value-is ∙ w.are_out.ensures.1 (outside.1 (λ q i. b.literal q false i))
        | else-are_in w ↦ absurd (both_ways c.are_in.result w.if-are_in.false (c.are_in.ensures.1 (inside.1 (λ q i. b.literal q true i))))
      ],
    )
