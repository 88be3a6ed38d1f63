-- The lines of an account, written one after another.
use Rattle.std.proofs.Common.{◌≡◌, ℕ, ◌+◌, List, [], ◌++◌, codes, decimal, length, get_or, add-one, append_assoc, append-nil, ap, ◌∙◌, sym}
use Rattle.lines.specs.Lines.{head, line}
use Rattle.notation.specs.Accounts.{found_text, in_lines, in_text}
use Rattle.notation.specs.Shown.{newline}
use Rattle.semantics.specs.FullMarkings.{row_of}
use Rattle.semantics.specs.Markings.{at}
use Rattle.semantics.specs.Rows.{how_many}
use Rattle.semantics.specs.declared.Mark.{Mark}

module _ (names : List (List ℕ)) (m : List Mark) where
  -- the first line, and those of the statements 0 to n - 1
  unfoldable pub first_lines : ℕ → List ℕ
  first_lines n = head (how_many (row_of m)) ++ in_lines names m n

  pub no_lines : (n : ℕ) → n ≡ how_many (row_of m) → head n ≡ first_lines 0
  unfolding first_lines
  no_lines n e = ap head e ∙ sym (append-nil (head (how_many (row_of m))))

  pub one_more_line : (q : ℕ) (mark : Mark) (name : List ℕ) → mark ≡ at m q → name ≡ get_or names q [] → first_lines q ++ line mark name ≡ first_lines (q + 1)
  unfolding first_lines
  one_more_line q mark name e f = rw (e, f, add-one) (append_assoc (head (how_many (row_of m))) (in_lines names m q) _)

  pub all_lines : (n : ℕ) → n ≡ length names → first_lines n ≡ found_text names m
  unfolding first_lines
  all_lines n e =
      let count = decimal (how_many (row_of m)) in
      rw e (append_assoc (codes "account ") (count ++ newline) (in_text names m) ∙ ap (λ t. codes "account " ++ t) (append_assoc count newline (in_text names m)))
