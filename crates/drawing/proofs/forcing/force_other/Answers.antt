use Rattle.drawing.proofs.Applying.{applied_forced, applied_none, applied_weaker, left_out, not_left_out}
use Rattle.drawing.proofs.forcing.force_other.Goals as goal
use Rattle.std.proofs.Common.{◌≡◌, Some, rules}

pub returns-then-eq : goal.returns-then-eq
returns-then-eq c = λ value p w.
    let here : c.args.except ≡ Some c.args.literal.statement = search rules in
    applied_none value p _ _ (λ o. absurd (left_out _ _ here o))

pub returns-else-eq : goal.returns-else-eq
returns-else-eq c = λ value p w.
    let l = c.args.literal in
    let other : c.args.except ≡ Some l.statement → ⊥ = search rules in
    applied_weaker value p _ _ _ _ c.force.result (λ h o. h) (applied_forced value p _ l.statement l.present (w (not_left_out _ _ other)) _ c.force.result c.force.ensures)
