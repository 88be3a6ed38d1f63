use Rattle.rulesets.proofs.Filling.{filled_all, filled_more, filled_none}
use Rattle.rulesets.proofs.rulesets.read_rules.Goals as goal
use Rattle.std.proofs.Common.{arith}
use Rattle.std.proofs.lemmas.List.{get_or_past}
use Rattle.table.specs.Tables.{contents_of, rules_of}
use Rattle.table.specs.View.{no_rule}

pub loop-i-init : goal.loop-i-init
loop-i-init c = filled_none _ 1024 _ c.none-rules.result (λ k l past. rw (get_or_past (rules_of c.args.table.now) k no_rule past) (c.none-rules.ensures (contents_of c.args.table.now)))

pub loop-i-preserved : goal.loop-i-preserved
loop-i-preserved c = filled_more _ 1024 _ _ c.loop-i.i c.read.result (omega arith) c.loop-i.invariant c.read.ensures

pub returns : goal.returns
returns c = filled_all _ 1024 _ c.loop-i.rules c.loop-i.i c.loop-i.invariant (omega arith)
