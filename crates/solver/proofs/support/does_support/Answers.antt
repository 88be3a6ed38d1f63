use Rattle.std.proofs.lemmas.Bool.{false≢true}
use Rattle.std.proofs.Common.{◌∙◌, sym}
use Rattle.solver.proofs.Supporting.{only_of, supports_told}
use Rattle.solver.proofs.support.does_support.Goals as goal

pub returns-then-is_only_head : goal.returns-then-is_only_head
returns-then-is_only_head g c = λ whole present. (
  (λ t. supports_told _ _ _ _ ((c.is_only_head.ensures present).0 c.if-is_only_head.true) ((c.is_body_true.ensures whole).0 t)),
  λ u. (c.is_body_true.ensures whole).1 u.body,
)

pub returns-else-is_only_head : goal.returns-else-is_only_head
returns-else-is_only_head g c = λ whole present. (
  (λ t. absurd (false≢true (sym c.if-is_only_head.false ∙ t))),
  λ u. (c.is_only_head.ensures present).1 (only_of _ _ _ _ u),
)
