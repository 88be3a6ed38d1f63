use Rattle.drawing.proofs.Deriving.{derived_same, failed_before}
use Rattle.drawing.proofs.Passes.{rules_failed, rules_next}
use Rattle.drawing.proofs.rules.apply_rules.Goals as goal
use Rattle.drawing.specs.Sweeps.{RulesApplied}
use Rattle.judging.specs.Rulebooks.{program_in}
use Rattle.judging.specs.Rulebooks.{contents_in}
use Rattle.std.proofs.Common.{◌≡◌, length, subst, arith}

pub loop-i-init : goal.loop-i-init
loop-i-init g c = λ counted standing. record { derived = derived_same _ _ _; counted = counted; passed = λ e j l. absurd (omega arith); standing = λ e. standing }

pub returns-in_err-apply_rule : goal.returns-in_err-apply_rule
returns-in_err-apply_rule g c = λ counted standing.
    let value = g.F.Family.value c.args.book.now.family.now in
    let p = program_in c.args.book.now in
    let inv = c.loop-i.invariant counted standing in
    rules_failed value p _ _ _ c.from_residual.result c.from_residual.ensures.0
    (failed_before value p _ _ inv.derived (c.in_err-apply_rule.ensures.applied (omega (arith, c.loop-i-test.true))))

pub loop-i-preserved : goal.loop-i-preserved
loop-i-preserved g c = λ counted standing.
    let value = g.F.Family.value c.args.book.now.family.now in
    let p = program_in c.args.book.now in
    let l = c.loop-i-test.true in
    let inv = c.loop-i.invariant counted standing in
    let step = c.in_ok-apply_rule.ensures in
    let made = step.applied (omega arith) in
    rules_next value p c.loop-i.i c.args.marking.now c.loop-i.marking c.apply_rule.new.marking c.loop-i.supports.by c.apply_rule.new.supports.by inv made.0 made.1 (step.counted (omega arith))

pub returns : goal.returns
returns g c = λ counted standing.
    let all : c.loop-i.i ≡ length (contents_in c.args.book.now).rules = omega (arith, c.loop-i-test.false, c.loop-i.auto.i-end, c.rules-i-end.ensures) in
    subst (λ i. RulesApplied (g.F.Family.value c.args.book.now.family.now) (program_in c.args.book.now) i c.args.marking.now c.loop-i.marking c.loop-i.supports.by) all (c.loop-i.invariant counted standing)
