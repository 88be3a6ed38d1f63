use Rattle.std.proofs.Common.{ap, codes, ◌++◌}
use Rattle.std.proofs.Output.{has_written_of_eq}
use Rattle.notation.proofs.Grounding.{lines_all}
use Rattle.notation.proofs.grounds.GroundsDisplay.fmt.Goals as goal
use Rattle.notation.specs.Shown.{newline}
use Rattle.notation.specs.Text.{rule_text}
use Rattle.table.specs.Tables.{contents_of, nth_rule}

pub returns-clause-writes : goal.returns-clause-writes
returns-clause-writes g c = λ plain ok.
    let s = c.args.self.now in
    let rule = nth_rule s.table s.i in
    has_written_of_eq _ _ _ _ _ (ap (λ t. codes "  " ++ (rule_text (contents_of s.table).names rule ++ (newline ++ t))) (lines_all (contents_of s.table) s.marks.now rule.aggregates _ c.rule.ensures.aggregates)) (c.write.ensures.writes plain ok)
