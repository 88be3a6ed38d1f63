-- What is known of statements as people read it: `in a`, `out b`, `open c`.
use Rattle.std.specs.Prelude.{ℕ, zero, suc, List, [], ◌++◌, length, codes}
use Rattle.notation.specs.Shown.{newline}
use Rattle.notation.specs.Text.{name_text}
use Rattle.semantics.specs.Markings.{at}
use Rattle.semantics.specs.Words.{mark_text}
use Rattle.semantics.specs.declared.Mark.{Mark}

module _ (names : List (List ℕ)) (marks : List Mark) where
  abbrev pub mark_line : ℕ → List ℕ
  mark_line q = mark_text (at marks q) ++ (codes " " ++ (name_text names q ++ newline))

  -- the lines of the statements 0 to n - 1, in order
  abbrev pub lines : ℕ → List ℕ
  lines zero = []
  lines (suc n) = lines n ++ mark_line n

  -- a line for each statement that has a name
  abbrev pub marks_text : List ℕ
  marks_text = lines (length names)
