-- The proper parts that a value of `Parts` stands for.
use Rattle.semantics.specs.FullMarkings.{row_of}
use Rattle.semantics.specs.declared.Mark.{Mark}
use Rattle.solver.specs.Smaller.{Fails, MeetsAll, Smaller, rest}
use Rattle.solver.specs.declared.parts.Parts.{Parts}
use Rattle.std.specs.Prelude.{◌≡◌, ℕ, Bool, List, length}
use Rattle.table.specs.Tables.{program_of, rules_of}

-- what is left of the row fails rule i, which is kept
abbrev pub FailsBy : Parts → List Mark → ℕ → Type 0
FailsBy p removed i = Fails (rules_of p.rules.now.table.now) p.reduct.now.kept (row_of p.row.now) (rest (row_of removed)) i

-- what is left of the row meets each rule that is kept
abbrev pub MeetsAllBy : Parts → List Mark → Type 0
MeetsAllBy p removed = MeetsAll (rules_of p.rules.now.table.now) p.reduct.now.kept (row_of p.row.now) (rest (row_of removed))

-- the statements are those of the table; what is left of the row is a proper part of it, and meets each rule that is kept
pub record SmallerBy (p : Parts) (removed : List Bool) : Type 0 where
  pub long : length removed ≡ (program_of p.rules.now.table.now).statements
  pub smaller : Smaller (rules_of p.rules.now.table.now) p.reduct.now.kept (row_of p.row.now) removed
