-- An account as people read it: how many statements are in it, and which; or that there is none.
use Rattle.std.specs.Prelude.{ℕ, zero, suc, Bool, if◌then◌else◌, List, [], ◌++◌, length, codes, decimal, Some, None, Option}
use Rattle.marking.specs.declared.marking.Marking.{Marking}
use Rattle.notation.specs.Shown.{newline}
use Rattle.notation.specs.Text.{name_text}
use Rattle.semantics.specs.FullMarkings.{is_in, row_of}
use Rattle.semantics.specs.Markings.{at}
use Rattle.semantics.specs.Rows.{how_many}
use Rattle.semantics.specs.declared.Mark.{Mark}

module _ (names : List (List ℕ)) (marks : List Mark) where
  -- a statement that is in has a line
  abbrev pub line_if : Bool → ℕ → List ℕ
  line_if present q = if present then codes "in " ++ (name_text names q ++ newline) else []

  -- the lines of the statements 0 to n - 1, in order
  abbrev pub in_lines : ℕ → List ℕ
  in_lines zero = []
  in_lines (suc n) = in_lines n ++ line_if (is_in (at marks n)) n

  -- those of all statements
  abbrev pub in_text : List ℕ
  in_text = in_lines (length names)

  -- how many are in, and which
  abbrev pub found_text : List ℕ
  found_text = codes "account " ++ (decimal (how_many (row_of marks)) ++ (newline ++ in_text))

-- the account, or that there is none
abbrev pub account_text : List (List ℕ) → Option Marking → List ℕ
account_text names (Some marks) = found_text names marks
account_text names None = codes "none\n"
