-- A table as people read it.
use Rattle.std.specs.Prelude.{ℕ, List, [], ◌∷◌, ◌++◌, codes, decimal}
use Rattle.format.specs.Check.{counts_of, faults}
use Rattle.refusal.specs.Refusals.{number_of}
use Rattle.format.specs.declared.check.Counts.{Counts}
use Rattle.refusal.specs.declared.Fault.{Fault}
use Rattle.semantics.specs.Programs.{Rule}
use Rattle.notation.specs.Text.{rule_text}
use Rattle.table.specs.Contents.{contents}

abbrev pub newline : List ℕ
newline = 10 ∷ []

abbrev pub fault_text : Fault → List ℕ
fault_text f = codes "refused " ++ (decimal (number_of f.refusal) ++ (codes " at " ++ (decimal f.place ++ newline)))

abbrev pub counts_text : Counts → List ℕ
counts_text c =
    codes "statements " ++ (decimal c.statements
    ++ (codes ", rules " ++ (decimal c.rules
    ++ (codes ", literals " ++ (decimal c.literals
    ++ (codes ", aggregates " ++ (decimal c.aggregates
    ++ (codes ", members " ++ (decimal c.members
    ++ (codes ", name bytes " ++ (decimal c.names ++ newline)))))))))))

-- one rule a line
abbrev pub rules_text : List (List ℕ) → List Rule → List ℕ
rules_text names [] = []
rules_text names (r ∷ rs) = rule_text names r ++ (newline ++ rules_text names rs)

-- the counts, and the rules of a table of these bytes
abbrev pub table_text : List ℕ → Counts → List ℕ
table_text b n = counts_text n ++ rules_text (contents b).names (contents b).rules

abbrev pub by_faults : List Fault → List ℕ → List ℕ
by_faults [] b = table_text b (counts_of b)
by_faults (f ∷ fs) b = fault_text f

-- the first fault of the bytes, or their counts and rules
unfoldable pub shown : List ℕ → List ℕ
shown b = by_faults (faults b) b
