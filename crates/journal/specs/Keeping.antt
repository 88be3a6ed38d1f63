-- What is told of a journal: the law over all its visits, in what is printed.
use Rattle.std.specs.Prelude.{◌≡◌, ℕ, List, ◌++◌, map, None}
use Rattle.std.specs.Str.Lines.{lines}
use Rattle.daybook.specs.Days.{day_text, entry_view, lines_noted, unmade_views}
use Rattle.daybook.specs.Standing.{standing_text}
use Rattle.semantics.specs.Families.{Values}
use Rattle.sheet.specs.Runs.{Runs}
use Rattle.sheet.specs.Sheets.{standing}
use Rattle.sheet.specs.declared.sheet.Sheet.{Sheet}
use Rattle.sheet.specs.declared.visits.Entry.{Entry}
use Rattle.table.specs.Contents.{contents}

-- the journal's visits, none of them made, are made on a sheet that is begun on the table, each as the law demands;
-- what is printed is what came of each, at its line, with the rules on which statements of the accounts stand where that is
-- asked, and then what stands on the sheet
pub record Kept (kinds : ℕ) (value : Values) (b journal out : List ℕ) : Type 0 where
  pub asked : List Entry
  pub unmade : map entry_view asked ≡ unmade_views (contents b).names (lines journal)
  pub made : List Entry
  pub sheet : Sheet
  pub law : Runs kinds value b asked made sheet
  pub told : out ≡ day_text kinds value b sheet.statements None (lines_noted (contents b).names (lines journal)) made ++ standing_text (contents b).names (standing sheet)
