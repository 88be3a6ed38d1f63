-- What was asked and what came of it, as people read it.
use Rattle.std.specs.Prelude.{ℕ, zero, suc, ◌==◌, Bool, if◌then◌else◌, List, [], ◌++◌, length, codes, decimal, slice_index, Some, None, Option, Result, Ok, Err}
use Rattle.notation.specs.Shown.{newline}
use Rattle.notation.specs.Text.{name_text}
use Rattle.refusal.specs.Refusals.{reason_text, refused_text}
use Rattle.refusal.specs.declared.Fault.{Fault}
use Rattle.semantics.specs.FullMarkings.{is_in}
use Rattle.semantics.specs.Markings.{marked}
use Rattle.semantics.specs.Words.{mark_text}
use Rattle.semantics.specs.declared.Finding.{Finding}
use Rattle.semantics.specs.declared.Mark.{Mark}
use Rattle.semantics.specs.declared.Mark.TheVariants.{In, Open, Out}
use Rattle.sheet.specs.declared.visits.Answer.{Answer}
use Rattle.sheet.specs.declared.visits.Answer.TheVariants.{Entered, Withdrawn, Drawn, Sought, Weighed}
use Rattle.sheet.specs.declared.visits.Drawing.TheVariants.{Settled, Clash}
use Rattle.sheet.specs.declared.visits.Entry.{Entry}
use Rattle.sheet.specs.declared.visits.Visit.{Visit}
use Rattle.sheet.specs.declared.visits.Visit.TheVariants.{Enter, Withdraw, Draw, Seek, Weigh, Suppose}
use Rattle.solver.specs.Words.{weighing_text}

-- the mark that a byte of a part stands for
abbrev pub mark_of : ℕ → Mark
mark_of byte = if byte == 1 then In else if byte == 2 then Out else Open

-- what a part says of a statement; past its end, that it is open
abbrev pub mark_at : List ℕ → ℕ → Mark
mark_at part q = mark_of (slice_index part q)

module _ (names : List (List ℕ)) where
  -- as `hood in`
  abbrev pub finding_text : Finding → List ℕ
  finding_text f = name_text names f.statement ++ (codes " " ++ mark_text (marked f.present))

  -- a visit as it is written in a journal
  abbrev pub asked_text : Visit → List ℕ
  asked_text (Enter f) = codes "enter " ++ finding_text f
  asked_text Withdraw = codes "withdraw"
  asked_text Draw = codes "draw"
  asked_text Seek = codes "seek"
  asked_text (Weigh q) = codes "weigh " ++ name_text names q
  asked_text (Suppose f) = codes "suppose " ++ finding_text f

  module _ (part : List ℕ) where
    -- as `in hood`, indented
    abbrev pub mark_line : ℕ → List ℕ
    mark_line q = codes "  " ++ (mark_text (mark_at part q) ++ (codes " " ++ (name_text names q ++ newline)))

    -- the lines of the statements 0 to n - 1, in order
    abbrev pub mark_lines_to : ℕ → List ℕ
    mark_lines_to zero = []
    mark_lines_to (suc n) = mark_lines_to n ++ mark_line n

    -- a line for each statement
    abbrev pub mark_lines : List ℕ
    mark_lines = mark_lines_to (length names)

    -- a statement that is in has a line
    abbrev pub line_if : Bool → ℕ → List ℕ
    line_if present q = if present then codes "  in " ++ (name_text names q ++ newline) else []

    -- those of the statements 0 to n - 1, in order
    abbrev pub account_lines_to : ℕ → List ℕ
    account_lines_to zero = []
    account_lines_to (suc n) = account_lines_to n ++ line_if (is_in (mark_at part n)) n

    -- the statements that are in
    abbrev pub account_lines : List ℕ
    account_lines = account_lines_to (length names)

    -- what a visit is answered, with the lines of what was written to its part
    abbrev pub answer_text : Answer → List ℕ
    answer_text Entered = codes "entered\n"
    answer_text (Withdrawn f) = codes "withdrawn " ++ (finding_text f ++ newline)
    answer_text (Drawn Settled) = codes "settled\n" ++ mark_lines
    answer_text (Drawn Clash) = codes "clash\n"
    answer_text (Sought (Some n)) = codes "account " ++ (decimal n ++ (newline ++ account_lines))
    answer_text (Sought None) = codes "no account\n"
    answer_text (Weighed w) = weighing_text w ++ newline

    -- or why it is refused
    abbrev pub came_text : Option (Result Answer Fault) → List ℕ
    came_text None = codes "not asked yet\n"
    came_text (Some (Ok a)) = answer_text a
    came_text (Some (Err f)) = refused_text f ++ (codes ": " ++ (reason_text f.refusal ++ newline))

  -- the number of the line, what was asked, and what came of it
  abbrev pub entry_text : ℕ → Entry → List ℕ
  entry_text number e =
      decimal number
      ++ (codes ". " ++ (asked_text e.visit ++ (codes ": " ++ came_text e.part.items e.answer)))
