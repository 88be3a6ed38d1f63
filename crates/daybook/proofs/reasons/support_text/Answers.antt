use Rattle.std.proofs.Common.{◌≡◌, ◌∙◌, IfOk, ap, string_bytes, subst}
use Rattle.daybook.proofs.reasons.support_text.Goals as goal
use Rattle.daybook.specs.Reasons.{rule_line}
use Rattle.notation.specs.Grounds.{grounds_text}
use Rattle.semantics.specs.FullMarkings.{row_of}
use Rattle.solver.proofs.Supporting.{row_of_marked}
use Rattle.solver.specs.Support.{row_read}
use Rattle.table.specs.Tables.{contents_of, nth_rule, program_of}

pub returns-in_ok-grounds-in-ByRule : goal.returns-in_ok-grounds-in-ByRule
returns-in_ok-grounds-in-ByRule c =
    let t = c.args.table.now in
    let row = row_read (program_of t).statements c.args.found.row.now in
    let shown = c.as_str.ensures.value ∙ c.in_ok-grounds-in-ByRule.ensures.text ∙ ap (λ s. grounds_text (contents_of t).names s (nth_rule t c.in-ByRule.i)) (ap row_of c.read_row.ensures ∙ row_of_marked row) in
    rw c.in-ByRule.is (subst (λ grounds. IfOk c.rule_text.result (λ s. string_bytes s ≡ rule_line c.in-ByRule.i c.args.found.line grounds)) shown c.rule_text.ensures)
