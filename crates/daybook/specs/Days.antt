-- The lines of a journal and their visits, in order, and what is printed of them.
use Rattle.std.specs.Prelude.{ℕ, ◌+◌, List, [], ◌∷◌, ◌++◌, codes, decimal, length, map, replicate, Option, Some, None, Result, Ok, Err}
use Rattle.daybook.specs.Telling.{entry_text}
use Rattle.daybook.specs.Reasons.{why_text}
use Rattle.daybook.specs.Requests.{mistake_text, request_read}
use Rattle.daybook.specs.declared.days.Content.{Content}
use Rattle.daybook.specs.declared.days.Content.TheVariants.{Visit as AVisit, Why as AWhy, Mistake as AMistake}
use Rattle.daybook.specs.declared.days.Line.{Line}
use Rattle.daybook.specs.declared.reading.Mistake.{Mistake}
use Rattle.daybook.specs.declared.reading.Request.{Request}
use Rattle.daybook.specs.declared.reading.Request.TheVariants.{Visit as Visiting, Why}
use Rattle.notation.specs.Shown.{newline}
use Rattle.refusal.specs.declared.Fault.{Fault}
use Rattle.semantics.specs.Families.{Values}
use Rattle.sheet.specs.declared.visits.Answer.{Answer}
use Rattle.sheet.specs.declared.visits.Answer.TheVariants.{Entered, Withdrawn, Drawn, Sought, Weighed}
use Rattle.sheet.specs.declared.visits.Entry.{Entry}
use Rattle.sheet.specs.declared.visits.Visit.{Visit}
use Rattle.sheet.specs.declared.visits.Visit.TheVariants.{Enter, Withdraw, Draw, Seek, Weigh, Suppose}
use Rattle.std.specs.List.{enumerate_from, flat_map}
use Rattle.table.specs.Contents.{contents}

-- what an entry holds
pub record EntryView : Type 0 where
  pub visit : Visit
  pub part : List ℕ
  pub answer : Option (Result Answer Fault)

abbrev pub entry_view : Entry → EntryView
entry_view e = record { visit = e.visit; part = e.part.items; answer = e.answer }

abbrev pub line : ℕ → Content → Line
line number content = record { number = number; content = content }

-- the line of the day that a line of the text adds, unless it is passed over
abbrev pub lines_added : ℕ → Result (Option Request) Mistake → List Line
lines_added number (Ok None) = []
lines_added number (Ok (Some (Visiting visit))) = line number AVisit ∷ []
lines_added number (Ok (Some (Why q))) = line number (AWhy q) ∷ []
lines_added number (Err mistake) = line number (AMistake mistake) ∷ []

-- the visit that it adds
abbrev pub visits_added : Result (Option Request) Mistake → List Visit
visits_added (Ok None) = []
visits_added (Ok (Some (Visiting visit))) = visit ∷ []
visits_added (Ok (Some (Why q))) = []
visits_added (Err mistake) = []

-- the entries that are left after a line of the day
abbrev pub entries_left : Content → List Entry → List Entry
entries_left AVisit [] = []
entries_left AVisit (e ∷ entries) = entries
entries_left (AWhy q) entries = entries
entries_left (AMistake mistake) entries = entries

-- nothing after a seeking, and else what there is
abbrev pub unless_sought : {X : Type 0} → Visit → Option X → Option X
unless_sought (Enter f) x = x
unless_sought Withdraw x = x
unless_sought Draw x = x
unless_sought Seek x = None
unless_sought (Weigh q) x = x
unless_sought (Suppose f) x = x

-- the account that was found last, by the number of its line and its row: a seeking that finds none leaves none, and a
-- supposing that finds none leaves what there was
abbrev pub latest : ℕ → Visit → List ℕ → Option (ℕ × List ℕ) → Option (Result Answer Fault) → Option (ℕ × List ℕ)
latest number visit part found (Some (Ok (Sought (Some count)))) = Some (number, part)
latest number visit part found (Some (Ok (Sought None))) = unless_sought visit found
latest number visit part found (Some (Ok Entered)) = found
latest number visit part found (Some (Ok (Withdrawn f))) = found
latest number visit part found (Some (Ok (Drawn d))) = found
latest number visit part found (Some (Ok (Weighed w))) = found
latest number visit part found (Some (Err f)) = found
latest number visit part found None = found

abbrev pub found_after : ℕ → Content → Option (ℕ × List ℕ) → List Entry → Option (ℕ × List ℕ)
found_after number AVisit found [] = found
found_after number AVisit found (e ∷ entries) = latest number e.visit e.part.items found e.answer
found_after number (AWhy q) found entries = found
found_after number (AMistake mistake) found entries = found

module _ (names : List (List ℕ)) where
  -- the lines that are not passed over, by their numbers from 1 on
  abbrev pub lines_noted : List (List ℕ) → List Line
  lines_noted texts = flat_map (λ p. lines_added (p.0 + 1) (request_read names p.1)) (enumerate_from 0 texts)

  -- the visits that they ask for
  abbrev pub visits_asked : List (List ℕ) → List Visit
  visits_asked texts = flat_map (λ text. visits_added (request_read names text)) texts

  -- the entry of a visit that has not been made: its part has a byte for each statement
  abbrev pub unmade_view : Visit → EntryView
  unmade_view visit = record { visit = visit; part = replicate (length names) 0; answer = None }

  -- the entries of all visits
  abbrev pub unmade_views : List (List ℕ) → List EntryView
  unmade_views texts = map unmade_view (visits_asked texts)

-- on a sheet of n statements, a table of these bytes and a family of so many kinds with these values
module _ (kinds : ℕ) (value : Values) (b : List ℕ) (n : ℕ) where
  -- a line as it is printed: what came of the first entry that is left, if one is; on what a statement of the latest
  -- account stands; or its mistake
  abbrev pub line_text : ℕ → Content → Option (ℕ × List ℕ) → List Entry → List ℕ
  line_text number AVisit found [] = []
  line_text number AVisit found (e ∷ entries) = entry_text (contents b).names number e
  line_text number (AWhy q) found entries = why_text kinds value b n number q found
  line_text number (AMistake mistake) found entries = decimal number ++ (codes ". " ++ (mistake_text mistake ++ newline))

  -- all lines, in order
  abbrev pub day_text : Option (ℕ × List ℕ) → List Line → List Entry → List ℕ
  day_text found [] entries = []
  day_text found (l ∷ lines) entries =
      line_text l.number l.content found entries
      ++ day_text (found_after l.number l.content found entries) lines (entries_left l.content entries)
