use Rattle.solver.proofs.Sets.{fails_under}
use Rattle.solver.proofs.parts.Parts.failing.Goals as goal
use Rattle.table.specs.Tables.{nth_rule}

pub returns : goal.returns
returns c =
    fails_under c.args.self.now.row.now (nth_rule c.args.self.now.rules.now.table.now c.args.i) c.rule-rule.result.head c.needed.result c.rule-rule.ensures.head (c.needed.ensures _ c.rule-rule.ensures) c.marks.result c.marks.ensures.long c.marks.ensures.apart c.marks.ensures.meeting
