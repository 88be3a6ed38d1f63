-- The lines of statements and their marks.
use Rattle.std.proofs.Common.{◌≡◌, ℕ, ◌+◌, false, List, ◌++◌, codes, add-one, refl, sym}
use Rattle.std.proofs.lemmas.List.{append-nil}
use Rattle.notation.specs.Accounts.{in_lines}
use Rattle.notation.specs.Marks.{lines}
use Rattle.notation.specs.Shown.{newline}
use Rattle.notation.specs.Text.{name_text}
use Rattle.semantics.specs.Markings.{at}
use Rattle.semantics.specs.Words.{mark_text}
use Rattle.semantics.specs.FullMarkings.{is_in}
use Rattle.semantics.specs.declared.Mark.{Mark}
use Rattle.semantics.specs.declared.Mark.TheVariants.{Open, In, Out}

module _ (names : List (List ℕ)) (marks : List Mark) where
  pub lines_more : (q : ℕ) {mark : Mark} {name : List ℕ} → mark ≡ at marks q → name ≡ name_text names q → lines names marks q ++ (mark_text mark ++ (codes " " ++ (name ++ newline))) ≡ lines names marks (q + 1)
  lines_more q em en = rw add-one (cc)

module _ (names : List (List ℕ)) (marks : List Mark) where
  -- a statement that is in, and one that is not
  pub in_more : (q : ℕ) {name : List ℕ} → at marks q ≡ In → name ≡ name_text names q → in_lines names marks q ++ (codes "in " ++ (name ++ newline)) ≡ in_lines names marks (q + 1)
  in_more q e en = rw (add-one, e) (cc)

  pub in_same : (q : ℕ) → (at marks q ≡ In → ⊥) → in_lines names marks q ≡ in_lines names marks (q + 1)
  in_same q n = rw (add-one, out (at marks q) n) (sym (append-nil (in_lines names marks q)))
    where
      out : (v : Mark) → (v ≡ In → ⊥) → is_in v ≡ false
      out Open n = refl
      out In n = absurd (n refl)
      out Out n = refl
