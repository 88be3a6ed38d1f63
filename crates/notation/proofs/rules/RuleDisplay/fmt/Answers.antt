use Rattle.std.proofs.Output.{has_written_of_eq}
use Rattle.notation.proofs.Placed.{rule_shown}
use Rattle.notation.proofs.rules.RuleDisplay.fmt.Goals as goal

pub returns-clause-writes : goal.returns-clause-writes
returns-clause-writes g c = λ plain ok.
    has_written_of_eq _ _ _ _ _ (rule_shown _ _ _ c.rule-rule.ensures _ c.sign-sign.ensures) (c.write.ensures.writes plain ok)
