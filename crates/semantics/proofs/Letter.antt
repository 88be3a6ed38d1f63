-- The third step asked of open statements only comes to the same.
use Rattle.std.proofs.Common.{◌≡◌, ℕ, Bool, true, false, not, ◌⊎◌, List, sym, ap, ◌∙◌, inl, inr, ⊎_elim}
use Rattle.semantics.specs.declared.Mark.{Mark}
use Rattle.semantics.specs.Families.{Values}
use Rattle.semantics.specs.Markings.{at, marked, Broken, Forces}
use Rattle.semantics.specs.Markings as by
use Rattle.semantics.specs.Programs.{Rule}
use Rattle.semantics.specs.Theorems.{ForcesOpen, fires, explains, chooses, blocks, unsupported, ByTheLetter}
use Rattle.semantics.proofs.Marks.{open_unmarked, both_marked, cases_mark}

not_twice : {v : Mark} (x : Bool) → v ≡ marked (not (not x)) → v ≡ marked x
not_twice true e = e
not_twice false e = e

module _ (value : Values) (rules : List Rule) (m : List Mark) where
  loosen : {q : ℕ} {x : Bool} → ForcesOpen value rules m q x → Forces value rules m q x
  loosen (fires r p i s j h) = by.fires r p i s j h
  loosen (explains p i r q x e o k) = by.explains p i r q x e o k
  loosen (chooses p i r q e o k d) = by.chooses p i r q e o k d
  loosen (blocks r q x o i h k) = by.blocks r q x i h k
  loosen (unsupported p h) = by.unsupported p h

  -- what is forced is so by the letter, or is so marked already, or the marking is broken
  tighten : {q : ℕ} {x : Bool} → Forces value rules m q x → ForcesOpen value rules m q x ⊎ ((at m q ≡ marked x) ⊎ (Broken value rules m × (at m q ≡ marked (not x))))
  tighten (by.fires r p i s j h) = inl (fires r p i s j h)
  tighten (by.explains p i r q x e o k) = inl (explains p i r q x e o k)
  tighten (by.chooses p i r q e o k d) = inl (chooses p i r q e o k d)
  tighten (by.blocks r q x i h k) =
      ⊎_elim
      (λ o. inl (blocks r q x o i h k))
      (⊎_elim (λ t. inr (inl t)) (λ t. inr (inr ((r, i, h, record { literal = λ p y j. ⊎_elim (λ e. ap (at m) e.0 ∙ not_twice x t ∙ ap marked (sym e.1)) (λ e. e) (k.literal p y j); aggregate = k.aggregate }), t))))
      (cases_mark (at m q) (not x))
  tighten (by.unsupported p h) = inl (unsupported p h)

pub by_the_letter : ByTheLetter
by_the_letter value rules m = record {
  loosen = λ q x h. loosen value rules m h;
  open_same = λ q x o h. ⊎_elim (λ s. s) (⊎_elim (λ t. absurd (open_unmarked x (sym o ∙ t))) (λ t. absurd (open_unmarked (not x) (sym o ∙ t.1)))) (tighten value rules m h);
  against_same = λ q x w e h. ⊎_elim (λ s. s) (⊎_elim (λ t. both_marked x t e) (λ t. absurd (w t.0))) (tighten value rules m h);
}
