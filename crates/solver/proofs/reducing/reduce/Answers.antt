use Rattle.rulesets.specs.Judging.{program_in, rule_in}
use Rattle.semantics.specs.AnswerSets.{BodyTrue}
use Rattle.semantics.specs.FullMarkings.{row_of}
use Rattle.solver.proofs.Keeping.{heads_more, heads_none, reduces_more, reduces_none, reduces_other}
use Rattle.solver.proofs.Obeying.{HeadsBefore, disobeys_itself, obeys_itself}
use Rattle.solver.proofs.reducing.reduce.Goals as goal
use Rattle.solver.specs.Reducts.{Reduces}
use Rattle.std.proofs.Common.{◌≡◌, arith, length, subst}
use Rattle.std.proofs.lemmas.Bool.{both_ways}
use Rattle.table.proofs.Limits.{rules_few}

pub loop-i-init : goal.loop-i-init
loop-i-init g c = λ whole. (rw c.none-reduct.ensures (reduces_none _ _ _), heads_none _ _ _)

pub loop-i-preserved-then-not-is_body_true : goal.loop-i-preserved-then-not-is_body_true
loop-i-preserved-then-not-is_body_true g c = λ whole.
    let before = c.loop-i.invariant whole in
    let false_body : BodyTrue (g.F.Family.value c.args.judge.now.family.now) (row_of c.args.row.now) (rule_in c.args.judge.now c.loop-i.i) → ⊥ = λ b. both_ways c.is_body_true.result c.if-not-is_body_true.true ((c.is_body_true.ensures whole).1 b) in
    (reduces_other _ _ _ c.loop-i.i c.loop-i.reduct.kept before.0 false_body, heads_more _ _ _ c.loop-i.i before.1 (λ b. absurd (false_body b)))

pub returns-then-not-has_head : goal.returns-then-not-has_head
returns-then-not-has_head g c = λ whole.
    disobeys_itself _ _ _ c.loop-i.i (omega (arith, c.loop-i-test.true, c.rules-i-end.ensures))
    ((c.is_body_true.ensures whole).0 c.if-not-is_body_true.false) (rw c.has_head.ensures at c.if-not-has_head.true)

pub loop-i-preserved : goal.loop-i-preserved
loop-i-preserved g c = λ whole.
    let before = c.loop-i.invariant whole in (
      rw c.keep.ensures
          (reduces_more _ _ _ c.loop-i.i c.loop-i.reduct.kept before.0
          (omega (arith, c.loop-i-test.true, c.rules-i-end.ensures, rules_few c.args.judge.now.rules.now.table.now.bytes.now, c.loop-i.reduct.long))
          ((c.is_body_true.ensures whole).0 c.if-not-is_body_true.false)),
      heads_more _ _ _ c.loop-i.i before.1 (λ b. rw c.has_head.ensures at c.if-not-has_head.false),
    )

pub returns : goal.returns
returns g c = λ whole.
    let value = g.F.Family.value c.args.judge.now.family.now in
    let rules = (program_in c.args.judge.now).rules in
    let s = row_of c.args.row.now in
    let all : c.loop-i.i ≡ length rules = omega (arith, c.loop-i-test.false, c.loop-i.auto.i-end, c.rules-i-end.ensures) in
    let done = c.loop-i.invariant whole in
    (subst (λ i. Reduces value rules s i c.loop-i.reduct.kept) all done.0, obeys_itself value rules s (subst (HeadsBefore value rules s) all done.1))
