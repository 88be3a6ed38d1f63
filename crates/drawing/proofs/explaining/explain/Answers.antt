use Rattle.drawing.proofs.Applying.{applied_failed, applied_on, applied_weaker}
use Rattle.drawing.proofs.Deriving.{failed_before}
use Rattle.drawing.proofs.Explanations.{HeadRun, NegativeRun, PositiveRun, explained, heads_wanted, negatives_wanted, positives_wanted}
use Rattle.drawing.proofs.explaining.explain.Goals as goal
use Rattle.drawing.specs.Applying.{IsMarked}
use Rattle.std.proofs.Common.{true, false, Ok}
use Rattle.table.specs.Contents.{program}
use Rattle.table.specs.Tables.{contents_of}

pub returns-in_err-force_run : goal.returns-in_err-force_run
returns-in_err-force_run c = λ value h e.
    let t = contents_of c.args.table.now in
    let m = c.args.marking.now in
    applied_failed value (program t) _ _ c.from_residual.result _ c.from_residual.ensures.0
    (c.in_err-force_run.ensures value (program t) (positives_wanted value t m c.args.statement c.args.rule c.rule-rule.result c.rule-rule.ensures h e m (λ q x k. k)))

pub returns-in_err-force_run-2 : goal.returns-in_err-force_run-2
returns-in_err-force_run-2 c = λ value h e.
    let t = contents_of c.args.table.now in
    let m = c.args.marking.now in
    let m1 = c.force_run.new.marking in
    let one = c.in_ok-force_run.ensures value (program t) (positives_wanted value t m c.args.statement c.args.rule c.rule-rule.result c.rule-rule.ensures h e m (λ q x k. k)) in
    applied_failed value (program t) _ _ c.from_residual-in_err-force_run-2.result _ c.from_residual-in_err-force_run-2.ensures.0
    (failed_before value (program t) m m1 one.0
    (c.in_err-force_run-2.ensures value (program t) (negatives_wanted value t m c.args.statement c.args.rule c.rule-rule.result c.rule-rule.ensures h e m1 one.0.adds)))

pub returns : goal.returns
returns c = λ value h e.
    let t = contents_of c.args.table.now in
    let p = program t in
    let q = c.args.statement in
    let i = c.args.rule in
    let v = c.rule-rule.result in
    let s = c.rule-rule.ensures in
    let m = c.args.marking.now in
    let m1 = c.force_run.new.marking in
    let m2 = c.force_run-2.new.marking in
    let m3 = c.force_run-3.new.marking in
    let one = c.in_ok-force_run.ensures value p (positives_wanted value t m q i v s h e m (λ o x k. k)) in
    let two = c.in_ok-force_run-2.ensures value p (negatives_wanted value t m q i v s h e m1 one.0.adds) in
    let both = applied_on value p m m1 m2 (PositiveRun value t m q i v s (IsMarked m true)) (λ l. NegativeRun value t m q i v s (IsMarked l false)) (Ok tt) one.0 one.1 two in
    let three = c.force_run-3.ensures value p (heads_wanted value t m q i v s h e m2 both.0.adds) in
    applied_weaker value p m m3 _ _ c.force_run-3.result (explained value t m q i v s)
    (applied_on value p m m2 m3 _ (λ l. HeadRun value t m q i v s (IsMarked l false)) c.force_run-3.result both.0 both.1 three)
