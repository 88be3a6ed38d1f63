use Rattle.drawing.proofs.Applying.{applied_failed}
use Rattle.drawing.proofs.Ending.{none_counted, none_standing, swept}
use Rattle.drawing.proofs.sweeping.sweep.Goals as goal
use Rattle.judging.specs.Rulebooks.{program_in}

pub returns-in_err-apply_rules : goal.returns-in_err-apply_rules
returns-in_err-apply_rules g c =
    let value = g.F.Family.value c.args.book.now.family.now in
    let p = program_in c.args.book.now in
    let m = c.args.marking.now in
    let none = c.none-supports.ensures in
    applied_failed value p m _ c.from_residual.result _ c.from_residual.ensures.0 (c.in_err-apply_rules.ensures (none_counted value p m _ none) (none_standing value p m _ none))

pub returns : goal.returns
returns g c =
    let value = g.F.Family.value c.args.book.now.family.now in
    let p = program_in c.args.book.now in
    let m = c.args.marking.now in
    let none = c.none-supports.ensures in
    let rules = c.in_ok-apply_rules.ensures (none_counted value p m _ none) (none_standing value p m _ none) in
    swept value p m c.apply_rules.new.marking c.apply_statements.new.marking c.apply_rules.new.supports.by c.apply_statements.result rules (c.apply_statements.ensures value rules.counted)
