use Rattle.layout.specs.declared.area.Area.TheVariants.{Rules}
use Rattle.table.proofs.Places.{read_there, shows_no_rule, shows_rule}
use Rattle.table.proofs.table.Table.rule.Goals as goal
use Rattle.table.specs.View.{ShowsRule, rule_read}

pub returns : goal.returns
returns c =
    read_there Rules c.record.result rule_read _ (ShowsRule _ _) c.record.ensures c.map_or.ensures
    (λ past e. rw e (shows_no_rule _ c.args.i past))
    (λ ok l. shows_rule _ ok c.args.i l)
