-- The rules that bind a row, one after another.
use Rattle.std.proofs.Common.{◌≡◌, ℕ, ◌+◌, ◌<◌, Bool, true, false, List, length, get_or, set, replicate, ◌∙◌, ⊎_elim, arith}
use Rattle.std.proofs.lemmas.Bool.{both_ways, cases_eq, cases_lt}
use Rattle.std.proofs.lemmas.List.{get_or-replicate, get_or-set_other, get_or-set_same, get_or_past, length-replicate}
use Rattle.semantics.specs.Families.{Values}
use Rattle.semantics.specs.Programs.{Rule}
use Rattle.semantics.specs.Rows.{has}
use Rattle.semantics.specs.AnswerSets.{BodyTrue}
use Rattle.solver.proofs.Obeying.{HeadsBefore}
use Rattle.solver.specs.Reducts.{Reduces, keeps}
use Rattle.std.specs.List.{list_any}
use Rattle.table.specs.View.{no_rule}

none_kept : (i : ℕ) → keeps (replicate 1024 false) i ≡ false
none_kept i =
    ⊎_elim
    (λ l. get_or-replicate 1024 i false false l)
    (λ l. get_or_past (replicate 1024 false) i false (omega (arith, length-replicate 1024 false)))
    (cases_lt i 1024)

module _ (value : Values) (rules : List Rule) (s : List Bool) where
  pub reduces_none : Reduces value rules s 0 (replicate 1024 false)
  reduces_none = record { bodies = λ i l. absurd (omega arith); others = λ i l. none_kept i }

  pub heads_none : HeadsBefore value rules s 0
  heads_none i l = absurd (omega arith)

  module _ (n : ℕ) where
    abbrev rule : ℕ → Rule
    rule i = get_or rules i no_rule

    -- one rule more, of whose head there is a statement if its body is true
    pub heads_more : HeadsBefore value rules s n → (BodyTrue value s (rule n) → list_any (has s) (rule n).head ≡ true) → HeadsBefore value rules s (n + 1)
    heads_more h k i l b = ⊎_elim (λ (e : i ≡ n). rw e (k (rw e at b))) (λ d. h i (omega (arith, d)) b) (cases_eq i n)

    module _ (kept : List Bool) (k : Reduces value rules s n kept) where
      -- it is kept where its body is true
      pub reduces_more : n < length kept → BodyTrue value s (rule n) → Reduces value rules s (n + 1) (set kept n true)
      reduces_more l t = record {
        bodies = λ i j. ⊎_elim
            (λ (e : i ≡ n). rw e ((λ y. t), λ b. get_or-set_same kept n true false l))
            (λ d. rw (get_or-set_other kept n i true false d) (k.bodies i (omega (arith, d))))
            (cases_eq i n);
        others = λ i j. get_or-set_other kept n i true false (λ e. omega arith) ∙ k.others i (omega arith);
      }

      -- and else not
      pub reduces_other : (BodyTrue value s (rule n) → ⊥) → Reduces value rules s (n + 1) kept
      reduces_other f = record {
        bodies = λ i j. ⊎_elim
            (λ (e : i ≡ n). rw e ((λ y. absurd (both_ways (keeps kept n) (k.others n (omega arith)) y)), λ b. absurd (f b)))
            (λ d. k.bodies i (omega (arith, d)))
            (cases_eq i n);
        others = λ i j. k.others i (omega arith);
      }
