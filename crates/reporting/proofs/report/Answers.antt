use Rattle.reporting.proofs.Texts.{told}
use Rattle.reporting.proofs.report.Goals as goal
use Rattle.sheet.specs.Sheets.{standing}
use Rattle.std.proofs.Common.{ap, ◌∙◌}

pub returns : goal.returns
returns c =
    let begun = ap (λ s. s.statements) c.sign.ensures ∙ c.begin.ensures.statements in
    let empty = ap standing c.sign.ensures ∙ c.begin.ensures.standing in
    told c.args.bytes.now c.in_ok-counts.field-0 c.sign.result.sheet.statements c.args.out.now c.report.new.out c.report.result (rw c.open-table.ensures.bytes at c.in_ok-counts.ensures) (rw c.open-table.ensures.bytes at begun) c.requires (rw (c.open-table.ensures.bytes, empty) at c.report.ensures).0
