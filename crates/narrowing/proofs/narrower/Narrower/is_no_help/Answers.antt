use Rattle.narrowing.proofs.narrower.Narrower.is_no_help.Goals as goal

pub returns-else-not-has_head_in : goal.returns-else-not-has_head_in
returns-else-not-has_head_in g c = (
  (λ e q i u. c.is_blocked.ensures.0 e),
  λ h. let (q, i, u) = c.has_head_in.ensures.0 c.if-not-has_head_in.false in c.is_blocked.ensures.1 (h q i u),
)
