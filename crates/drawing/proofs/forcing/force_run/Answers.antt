use Rattle.drawing.proofs.Applying.{applied_failed, applied_next, wanted_next}
use Rattle.drawing.proofs.Deriving.{derived_same, failed_before}
use Rattle.drawing.proofs.forcing.force_run.Goals as goal
use Rattle.std.proofs.Common.{Ok, arith}
use Rattle.table.specs.Tables.{contents_of}

pub loop-k-init : goal.loop-k-init
loop-k-init c = λ value p w. (derived_same value p _, λ e k f l. absurd (omega arith))

pub returns-in_err-force_other : goal.returns-in_err-force_other
returns-in_err-force_other c = λ value p w.
    let all = (contents_of c.args.table.now).literals in
    let i = c.loop-k.invariant value p w in
    let wanted = wanted_next value p all c.args.run.first c.args.run.end c.args.except c.args.present c.args.marking.now c.loop-k.marking c.loop-k.k c.literal-statement.result c.literal-statement.ensures.value c.loop-k.auto.k c.loop-k-test.true w i.0 in
    applied_failed value p _ _ c.from_residual.result _ c.from_residual.ensures.0 (failed_before value p _ _ i.0 (c.in_err-force_other.ensures value p wanted))

pub loop-k-preserved : goal.loop-k-preserved
loop-k-preserved c = λ value p w.
    let all = (contents_of c.args.table.now).literals in
    let i = c.loop-k.invariant value p w in
    let wanted = wanted_next value p all c.args.run.first c.args.run.end c.args.except c.args.present c.args.marking.now c.loop-k.marking c.loop-k.k c.literal-statement.result c.literal-statement.ensures.value c.loop-k.auto.k c.loop-k-test.true w i.0 in
    applied_next value p all c.args.run.first c.args.run.end c.args.except c.args.present c.args.marking.now c.loop-k.marking c.loop-k.k c.literal-statement.result c.literal-statement.ensures.value c.force_other.new.marking (Ok tt) i.0 i.1 (c.in_ok-force_other.ensures value p wanted)

pub returns : goal.returns
returns c = λ value p w.
    let i = c.loop-k.invariant value p w in
    (i.0, λ e k f l. i.1 e k f (omega (arith, c.loop-k-test.false)))
