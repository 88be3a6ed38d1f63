use Rattle.std.proofs.Common.{refl, arith}
use Rattle.std.proofs.Output.{has_written_of_eq}
use Rattle.notation.proofs.Reports.{rules_text_all, rules_text_more}
use Rattle.notation.proofs.Written.{then_text}
use Rattle.notation.proofs.report.RulesDisplay.fmt.Goals as goal

pub loop-i-preserved : goal.loop-i-preserved
loop-i-preserved g c = λ plain.
    has_written_of_eq _ _ _ _ _ (rules_text_more _ _ c.loop-i.i (omega arith)) (then_text refl (c.loop-i.invariant plain) c.in_ok-writeln.ensures.writes)

pub returns-clause-writes : goal.returns-clause-writes
returns-clause-writes g c = λ plain _.
    has_written_of_eq _ _ _ _ _ (rules_text_all _ _ c.loop-i.i (omega arith)) (c.loop-i.invariant plain)
