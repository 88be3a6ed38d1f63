use Rattle.sheet.proofs.Ledgers.{is_ledger}
use Rattle.sheet.proofs.sheet.Sheet.findings.Goals as goal
use Rattle.sheet.specs.Sheets.{standing}
use Rattle.std.proofs.Common.{◌≡◌, ap, arith, length, sym, ◌∙◌}

pub returns-clause-ledger : goal.returns-clause-ledger
returns-clause-ledger c =
    let s = c.args.self.now in
    let many : length (standing s) ≡ s.findings.count = sym (ap length c.all.ensures.value) ∙ c.all.ensures.count in
    is_ledger s.statements (standing s) (record { few = omega (arith, s.few, many); apart = s.apart })
