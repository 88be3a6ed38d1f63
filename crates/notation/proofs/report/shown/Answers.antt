use Rattle.std.proofs.Common.{◌≡◌, string_bytes, IfOk, subst}
use Rattle.notation.proofs.Reports.{table_shown}
use Rattle.notation.proofs.report.shown.Goals as goal

pub returns-in-Ok : goal.returns-in-Ok
returns-in-Ok c =
    subst (λ t. IfOk c.table_text.result (λ s. string_bytes s ≡ t)) (table_shown _ _ c.in-Ok.ensures) c.table_text.ensures
