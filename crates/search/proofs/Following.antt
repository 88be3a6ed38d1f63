-- Nogoods that follow from others.
use Rattle.std.proofs.Common.{Bool, List, Option, Some, None, IfSome, unwrap_or, inl, inr, ⊎_elim}
use Rattle.marking.specs.declared.marking.Marking.{Marking}
use Rattle.search.specs.Nogoods.{FollowsFromEither, EitherAgrees, Excluded, Follows, Grown, Known, Nogood, Sound}
use Rattle.semantics.specs.declared.Mark.{Mark}

module _ (kept : List (Option Marking)) where
  pub follows_itself : (n : List Mark) → Follows kept n n
  follows_itself n s a = inl a

  -- from a nogood and one that is known
  pub follows_either : (n b : List Mark) (r : Option Marking) → Known kept b → IfSome r (EitherAgrees n b) → Follows kept n (unwrap_or r n)
  follows_either n b None k e = follows_itself n
  follows_either n b (Some r) k e = λ s a. ⊎_elim (λ x. inl x) (λ x. inr (k s x)) (e s a)

  module _ (fits : List Bool → Type 0) (sound : Sound fits kept) where
    pub grown_sound : (n : List Mark) (after : List (Option Marking)) → Nogood fits n → Grown kept n after → Sound fits after
    grown_sound n after g h = record { none = λ s f x. ⊎_elim (λ a. g s f a) (λ y. sound.none s f y) (h s x) }

    pub either_nogood : (given whole n : List Mark) → Nogood fits given → Nogood fits whole → FollowsFromEither kept given whole n → Nogood fits n
    either_nogood given whole n g w b s f a = ⊎_elim (λ x. w s f x) (⊎_elim (λ x. g s f x) (λ x. sound.none s f x)) (b s a)

-- where nothing is kept
pub nothing_sound : (fits : List Bool → Type 0) (kept : List (Option Marking)) → ((s : List Bool) → Excluded kept s → ⊥) → Sound fits kept
nothing_sound fits kept n = record { none = λ s f x. n s x }
