-- On what a statement of an account stands, as people read it: of the account that was found at an earlier line.
use Rattle.std.specs.Prelude.{ℕ, List, ◌++◌, codes, decimal, length, slice_index_or, Some, None, Option, Result, Ok, Err}
use Rattle.notation.specs.Grounds.{grounds_text}
use Rattle.notation.specs.Shown.{newline}
use Rattle.notation.specs.Text.{name_text}
use Rattle.refusal.specs.Refusals.{reason_text, refused_text}
use Rattle.refusal.specs.declared.Fault.{Fault}
use Rattle.semantics.specs.Families.{Values}
use Rattle.semantics.specs.Programs.{Rule}
use Rattle.sheet.specs.Outcomes.{why_answer}
use Rattle.solver.specs.Support.{row_read}
use Rattle.solver.specs.declared.support.Support.{Support}
use Rattle.solver.specs.declared.support.Support.TheVariants.{ByRule, ByNone, NotIn}
use Rattle.table.specs.Contents.{contents}
use Rattle.table.specs.View.{no_rule}

-- it stands on rule i in the account that was written at a line, on these grounds
abbrev pub rule_line : ℕ → ℕ → List ℕ → List ℕ
rule_line i at grounds = codes "rule " ++ (decimal i ++ (codes ", in the account of line " ++ (decimal at ++ (newline ++ grounds))))

-- of these names and rules
module _ (names : List (List ℕ)) (rules : List Rule) where
  -- what is said of a statement of a row that was written at a line: the rule, with the members that make its aggregates
  -- true
  abbrev pub support_text : ℕ → List ℕ → Support → List ℕ
  support_text at row (ByRule i) =
      rule_line i at (grounds_text names (row_read (length names) row) (slice_index_or rules i no_rule))
  support_text at row ByNone = codes "no rule, in the account of line " ++ (decimal at ++ newline)
  support_text at row NotIn = codes "not in the account of line " ++ (decimal at ++ newline)

  -- or why it is refused
  abbrev pub answered_text : ℕ → List ℕ → Result Support Fault → List ℕ
  answered_text at row (Ok s) = support_text at row s
  answered_text at row (Err f) = refused_text f ++ (codes ": " ++ (reason_text f.refusal ++ newline))

-- on a sheet of n statements, a table of these bytes and a family of so many kinds with these values
module _ (kinds : ℕ) (value : Values) (b : List ℕ) (n : ℕ) where
  -- on what statement q stands in the account, if there is one, by its line and its row
  abbrev pub stands_text : ℕ → Option (ℕ × List ℕ) → List ℕ
  stands_text q None = codes "no account to ask of\n"
  stands_text q (Some (at, row)) = answered_text (contents b).names (contents b).rules at row (why_answer kinds value b n q row)

  -- with the number of the line
  abbrev pub why_text : ℕ → ℕ → Option (ℕ × List ℕ) → List ℕ
  why_text number q found =
      decimal number ++ (codes ". why " ++ (name_text (contents b).names q ++ (codes ": " ++ stands_text q found)))
