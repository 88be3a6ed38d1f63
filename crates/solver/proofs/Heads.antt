-- The head statements of a rule that a row has, as a set.
use Rattle.std.proofs.Common.{◌≡◌, ◌==◌, ◌&&◌, ◌↔◌, IsTrue, IsFalse, ℕ, Bool, true, false, not, List, Some, None, Option, eqb, refl, sym, ◌∙◌, subst}
use Rattle.std.proofs.lemmas.Bool.{and_parts, and_from, eqb-true, eq-eqb, false_from_ne_true, false≢true}
use Rattle.std.specs.Option.{option_eq}
use Rattle.std.specs.Cmp.{both_ways}
use Rattle.marking.specs.Sets.{Alone, OnlyOf, contains}
use Rattle.marking.specs.declared.set.Set.{Set}
use Rattle.semantics.proofs.Lists.{any_from, none_from}
use Rattle.semantics.specs.Programs.{Rule}
use Rattle.semantics.specs.Rows.{has}
use Rattle.solver.proofs.Removing.{listed, lists}
use Rattle.solver.specs.Smaller.{heads}
use Rattle.solver.specs.Support.{OnlyHead}
use Rattle.std.specs.List.{list_any}

module _ (s : List Bool) (r : Rule) (own : Set) (owns : (q : ℕ) → contains own q ≡ (heads r q && has s q)) where
  own_parts : (q : ℕ) → contains own q ≡ true → (heads r q ≡ true) × (has s q ≡ true)
  own_parts q h = and_parts (heads r q) (has s q) (sym (owns q) ∙ h)

  own_from : (q : ℕ) → heads r q ≡ true → has s q ≡ true → contains own q ≡ true
  own_from q h k = owns q ∙ and_from (heads r q) (has s q) h k

  -- whether there is one
  pub some_told : (empty : Bool) → (IsTrue empty ↔ ((q : ℕ) → contains own q ≡ false)) → (IsFalse empty → (q : ℕ) × (contains own q ≡ true)) → not empty ≡ list_any (has s) r.head
  some_told true none some = sym (none_from (has s) r.head (λ q i. false_from_ne_true (has s q) (λ h. false≢true (sym (none.0 refl q) ∙ own_from q (lists q r.head i) h))))
  some_told false none some =
      let (q, h) = some refl in
      let (i, k) = own_parts q h in
      sym (any_from (has s) r.head q (listed q r.head i) k)

  -- whether q is the only one
  alone_only : (q : ℕ) → Alone own q → OnlyHead s q r
  alone_only q alone = record {
    heads = listed q r.head (own_parts q (alone q ∙ eq-eqb q q refl)).0;
    alone = λ o i h. eqb-true o q (sym (alone o) ∙ own_from o (lists o r.head i) h);
  }

  only_alone : (q : ℕ) → has s q ≡ true → OnlyHead s q r → Alone own q
  only_alone q h only o = both_ways (contains own o) (o == q)
      (λ e. let (i, k) = own_parts o e in eq-eqb o q (only.alone o (listed o r.head i) k))
      (λ e. subst (λ p. contains own p ≡ true) (sym (eqb-true o q e)) (own_from q (lists q r.head only.heads) h))

  pub only_told : (q : ℕ) (found : Bool) (o : Option ℕ) → found ≡ option_eq eqb o (Some q) → OnlyOf own o → has s q ≡ true → (IsTrue found ↔ OnlyHead s q r)
  only_told q found None e none h = ((λ t. absurd (false≢true (sym e ∙ t))), λ only. absurd (none q (only_alone q h only)))
  only_told q found (Some p) e (l, alone) h = (
    (λ t. alone_only q (subst (Alone own) (eqb-true p q (sym e ∙ t)) alone)),
    λ only. e ∙ sym (only_alone q h only p) ∙ alone p ∙ eq-eqb p p refl,
  )
