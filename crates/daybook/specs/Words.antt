-- The words of a line.
use Rattle.std.specs.Prelude.{ℕ, List, filter, length, nat_lt}
use Rattle.std.specs.Char.{is_ascii_whitespace}
use Rattle.std.specs.List.{slice_split}

-- what stands between blanks, tabs and ends of lines, where anything does
abbrev pub words_of : List ℕ → List (List ℕ)
words_of line = filter (λ part. nat_lt 0 (length part)) (slice_split is_ascii_whitespace line)
