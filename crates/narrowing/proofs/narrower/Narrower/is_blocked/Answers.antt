use Rattle.narrowing.proofs.Blocking.{lost_blocks, only_impossible, other_head_blocks, own_member_blocks, unwanted_blocks}
use Rattle.narrowing.proofs.narrower.Narrower.is_blocked.Goals as goal
use Rattle.narrowing.specs.Unfounded.{refuted}
use Rattle.std.proofs.Common.{inr, refl}
use Rattle.std.proofs.lemmas.Bool.{both_ways}

pub returns-then-needs_lost : goal.returns-then-needs_lost
returns-then-needs_lost g c = (
  (λ e. lost_blocks _ _ _ _ _ _ c.rule-rule.ensures (c.needs_lost.ensures.0 c.if-needs_lost.true)),
  λ b. refl,
)

pub returns-then-is_some_in : goal.returns-then-is_some_in
returns-then-is_some_in g c = (
  (λ e. unwanted_blocks _ _ _ _ _ _ c.rule-rule.ensures (c.is_some_in.ensures.0 c.if-is_some_in.true)),
  λ b. refl,
)

pub returns-then-has_other_head : goal.returns-then-has_other_head
returns-then-has_other_head g c = (
  (λ e. other_head_blocks _ _ _ _ _ _ c.rule-rule.ensures (c.has_other_head.ensures.0 c.if-has_other_head.true)),
  λ b. refl,
)

pub returns-then-has_own_member : goal.returns-then-has_own_member
returns-then-has_own_member g c = (
  (λ e. own_member_blocks _ _ _ _ _ _ c.rule-rule.ensures (c.has_own_member.ensures.0 c.if-has_own_member.true)),
  λ b. refl,
)

pub returns : goal.returns
returns g c =
    let told = c.has_impossible.ensures _ c.rule-rule.ensures.aggregates in (
      (λ e. refuted (inr (told.0 e))),
      λ b. told.1 (only_impossible _ _ c.args.set _ _ _ c.rule-rule.ensures
          (λ h. both_ways c.needs_lost.result c.if-needs_lost.false (c.needs_lost.ensures.1 h))
          (λ h. both_ways c.is_some_in.result c.if-is_some_in.false (c.is_some_in.ensures.1 h))
          (λ h. both_ways c.has_other_head.result c.if-has_other_head.false (c.has_other_head.ensures.1 h))
          (λ h. both_ways c.has_own_member.result c.if-has_own_member.false (c.has_own_member.ensures.1 h))
          b),
    )
