-- The room that the text of an account takes, line by line.
use Rattle.std.proofs.Common.{◌≡◌, ℕ, zero, suc, ◌+◌, ◌*◌, ◌<◌, ◌≤◌, Bool, true, false, cond, List, [], Some, None, Option, decimal, length, get_or, refl, ap, ⊎_elim, arith, length-append}
use Rattle.format.specs.Check.{accepted}
use Rattle.format.specs.Statements.{name_at}
use Rattle.layout.specs.Areas.{count}
use Rattle.layout.specs.declared.area.Area.TheVariants.{Statements}
use Rattle.lines.proofs.Steps.{all_lines, first_lines, one_more_line}
use Rattle.lines.specs.Lines.{head, line}
use Rattle.marking.proofs.Counting.{in_counts}
use Rattle.marking.specs.declared.marking.Marking.{Marking}
use Rattle.notation.specs.Accounts.{account_text, found_text, in_lines, line_if}
use Rattle.notation.specs.Shown.{newline}
use Rattle.semantics.specs.FullMarkings.{is_in, row_of}
use Rattle.semantics.specs.Markings.{at}
use Rattle.semantics.specs.Rows.{how_many}
use Rattle.semantics.specs.declared.Mark.{Mark}
use Rattle.std.proofs.lemmas.Bool.{cases_lt}
use Rattle.std.proofs.lemmas.Fmt.{length-decimal-le}
use Rattle.std.proofs.lemmas.List.{get_or_past}
use Rattle.std.proofs.lemmas.List.FromFn.{get_or-map-range_with_len}
use Rattle.std.proofs.lemmas.List.Sums.{count_by-le-length}
use Rattle.table.proofs.Clean.{Clean, clean}
use Rattle.table.proofs.Held.{name_long, names_count}
use Rattle.table.proofs.Limits.{names_few}
use Rattle.table.proofs.Records.{statement_fits}
use Rattle.table.specs.Contents.{contents, held, names_held, nothing}

-- a name has at most 32 bytes
held_short : (b : List ℕ) → Clean b → (q : ℕ) → length (get_or (names_held b) q []) ≤ 32
unfolding names_held
held_short b c q =
    ⊎_elim
    (λ (l : q < length (names_held b)).
    let known : q < count b Statements = omega (arith, names_count b) in
    let e = ap length (get_or-map-range_with_len (name_at b) 0 _ q q [] known (omega arith)) in
    omega (arith, e, name_long b c q known, (statement_fits b q (c.statement q known)).few))
    (λ (l : length (names_held b) ≤ q). let e = ap length (get_or_past (names_held b) q [] l) in omega arith)
    (cases_lt q (length (names_held b)))

name_short : (b : List ℕ) (q : ℕ) → length (get_or (contents b).names q []) ≤ 32
unfolding contents
name_short b q = go (accepted b) refl
  where
    go : (ok : Bool) → accepted b ≡ ok → length (get_or (cond ok (held b) nothing).names q []) ≤ 32
    go true e = held_short b (clean b e) q
    go false e = omega arith

module _ (b : List ℕ) (m : List Mark) where
  line_short : (present : Bool) (q : ℕ) → length (line_if (contents b).names m present q) ≤ 36
  line_short true q = omega (arith, name_short b q, length-append (get_or (contents b).names q []) newline)
  line_short false q = omega arith

  -- the lines of n statements
  lines_short : (n : ℕ) → length (in_lines (contents b).names m n) ≤ 36 * n
  lines_short zero = omega arith
  lines_short (suc n) = omega (arith, lines_short n, line_short (is_in (at m n)) n, length-append (in_lines (contents b).names m n) (line_if (contents b).names m (is_in (at m n)) n))

  -- the first line
  pub head_short : (n : ℕ) → n ≡ how_many (row_of m) → length m ≤ 128 → length (head n) ≤ 12
  head_short n e few =
      let small : n ≤ 128 = omega (arith, in_counts m, count_by-le-length is_in m) in
      omega (arith, length-decimal-le 3 n (omega arith) (omega arith) (omega arith), length-append (decimal n) newline)

  -- and behind it those of n statements
  first_lines_short : length m ≤ 128 → (n : ℕ) → length (first_lines (contents b).names m n) ≤ 12 + 36 * n
  unfolding first_lines
  first_lines_short few n =
      omega (arith, head_short _ refl few, lines_short n, length-append (head (how_many (row_of m))) (in_lines (contents b).names m n))

  -- each has room
  pub line_fits : (q : ℕ) (mark : Mark) (name : List ℕ) → length m ≤ 128 → q < length (contents b).names → mark ≡ at m q → name ≡ get_or (contents b).names q [] → length (first_lines (contents b).names m q) + length (line mark name) ≤ 4620
  line_fits q mark name few l e f =
      omega (arith, ap length (one_more_line (contents b).names m q mark name e f), length-append (first_lines (contents b).names m q) (line mark name), first_lines_short few (q + 1), names_few b)

  found_short : length m ≤ 128 → length (found_text (contents b).names m) ≤ 4620
  found_short few =
      omega (arith, first_lines_short few (length (contents b).names), ap length (all_lines (contents b).names m _ refl), names_few b)

-- the text of any account, or of none, of a table
pub account_short : (b : List ℕ) (marks : Option Marking) → ((m : List Mark) → marks ≡ Some m → length m ≤ 128) → length (account_text (contents b).names marks) ≤ 4620
account_short b (Some m) few = found_short b m (few m refl)
account_short b None few = omega arith
