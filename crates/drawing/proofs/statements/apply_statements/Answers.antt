use Rattle.drawing.proofs.Applying.{applied_failed}
use Rattle.drawing.proofs.Deriving.{derived_same, failed_before}
use Rattle.drawing.proofs.Passes.{statements_next, support_there}
use Rattle.drawing.proofs.statements.apply_statements.Goals as goal
use Rattle.std.proofs.Common.{Ok, arith}
use Rattle.table.specs.Contents.{program}
use Rattle.table.specs.Tables.{program_of}

pub loop-statement-init : goal.loop-statement-init
loop-statement-init c = λ value counted. (derived_same value _ _, λ e s q l. absurd (omega arith))

pub returns-in_err-apply_statement : goal.returns-in_err-apply_statement
returns-in_err-apply_statement c = λ value counted.
    let p = program_of c.args.table.now in
    let by = c.args.supports.now.by in
    let long = c.args.supports.now.long in
    let few = c.statements-statement-end.ensures.few in
    let inv = c.loop-statement.invariant value counted in
    applied_failed value p _ _ c.from_residual.result _ c.from_residual.ensures.0
    (failed_before value p _ _ inv.0
    (c.in_err-apply_statement.ensures value (support_there value p by c.args.marking.now c.loop-statement.marking c.loop-statement.statement c.of.result c.of.ensures (omega (arith, c.loop-statement-test.true)) counted inv.0)))

pub loop-statement-preserved : goal.loop-statement-preserved
loop-statement-preserved c = λ value counted.
    let p = program_of c.args.table.now in
    let by = c.args.supports.now.by in
    let long = c.args.supports.now.long in
    let few = c.statements-statement-end.ensures.few in
    let m = c.args.marking.now in
    let n = c.loop-statement.marking in
    let q = c.loop-statement.statement in
    let inv = c.loop-statement.invariant value counted in
    let there = support_there value p by m n q c.of.result c.of.ensures (omega (arith, c.loop-statement-test.true)) counted inv.0 in
    statements_next value p by m n q c.of.result c.of.ensures (omega (arith, c.loop-statement-test.true)) c.apply_statement.new.marking (Ok tt) inv.0 inv.1 (c.in_ok-apply_statement.ensures value there)

pub returns : goal.returns
returns c = λ value counted.
    let inv = c.loop-statement.invariant value counted in
    (inv.0, λ e s q l. inv.1 e s q (omega (arith, c.loop-statement-test.false, c.statements-statement-end.ensures.value)))
