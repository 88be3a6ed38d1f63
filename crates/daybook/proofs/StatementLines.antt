-- The lines of the statements so far and of one more.
use Rattle.std.proofs.Common.{◌≡◌, ℕ, ◌+◌, false, List, ◌++◌, codes, add-one, refl, sym}
use Rattle.daybook.specs.Telling.{account_lines_to, mark_at, mark_lines_to}
use Rattle.notation.specs.Shown.{newline}
use Rattle.notation.specs.Text.{name_text}
use Rattle.semantics.specs.FullMarkings.{is_in}
use Rattle.semantics.specs.Words.{mark_text}
use Rattle.semantics.specs.declared.Mark.{Mark}
use Rattle.semantics.specs.declared.Mark.TheVariants.{Open, In, Out}
use Rattle.std.proofs.lemmas.List.{append-nil}

module _ (names : List (List ℕ)) (part : List ℕ) where
  pub mark_lines_more : (q : ℕ) {mark : Mark} {name : List ℕ} → mark ≡ mark_at part q → name ≡ name_text names q → mark_lines_to names part q ++ (codes "  " ++ (mark_text mark ++ (codes " " ++ (name ++ newline)))) ≡ mark_lines_to names part (q + 1)
  mark_lines_more q em en = rw add-one (cc)

  -- a statement that is in, and one that is not
  pub account_lines_more : (q : ℕ) {name : List ℕ} → mark_at part q ≡ In → name ≡ name_text names q → account_lines_to names part q ++ (codes "  in " ++ (name ++ newline)) ≡ account_lines_to names part (q + 1)
  account_lines_more q e en = rw (add-one, e) (cc)

  pub account_lines_same : (q : ℕ) → (mark_at part q ≡ In → ⊥) → account_lines_to names part q ≡ account_lines_to names part (q + 1)
  account_lines_same q n = rw (add-one, out (mark_at part q) n) (sym (append-nil (account_lines_to names part q)))
    where
      out : (v : Mark) → (v ≡ In → ⊥) → is_in v ≡ false
      out Open n = refl
      out In n = absurd (n refl)
      out Out n = refl
