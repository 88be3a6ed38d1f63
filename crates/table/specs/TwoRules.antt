-- A small table, byte by byte, and what it stands for.
use Rattle.std.specs.Prelude.{◌≡◌, ℕ, true, List, [], ◌∷◌, codes}
use Rattle.format.specs.Check.{accepted}
use Rattle.semantics.specs.SmallTables.{table_6}
use Rattle.table.specs.Contents.{contents, program}

abbrev pub two_rules : List ℕ
two_rules =
    1 ∷ 0 ∷ 76 ∷ 0 ∷ 2 ∷ 0 ∷ 28 ∷ 0 ∷ 2 ∷ 0 ∷ 36 ∷ 0 ∷ 2 ∷ 0 ∷ 52 ∷ 0 ∷ 1 ∷ 0 ∷ 54 ∷ 0 ∷ 1 ∷ 0 ∷ 66 ∷ 0 ∷ 2 ∷ 0 ∷ 74 ∷ 0
    ∷ 0 ∷ 0 ∷ 1 ∷ 0 ∷ 1 ∷ 0 ∷ 1 ∷ 0
    ∷ 1 ∷ 0 ∷ 0 ∷ 0 ∷ 0 ∷ 0 ∷ 0 ∷ 0 ∷ 1 ∷ 0 ∷ 0 ∷ 1 ∷ 1 ∷ 0 ∷ 0 ∷ 0
    ∷ 0 ∷ 1
    ∷ 0 ∷ 5 ∷ 1 ∷ 0 ∷ 0 ∷ 0 ∷ 0 ∷ 0 ∷ 0 ∷ 0 ∷ 0 ∷ 0
    ∷ 0 ∷ 0 ∷ 0 ∷ 0 ∷ 1 ∷ 0 ∷ 0 ∷ 0
    ∷ 97 ∷ 98 ∷ []

-- the bytes are accepted, and stand for a.  b ← count{a:1} > 0
pub record TwoRules : Type 0 where
  pub passes : accepted two_rules ≡ true
  pub stands : program (contents two_rules) ≡ table_6
  pub named : (contents two_rules).names ≡ codes "a" ∷ codes "b" ∷ []
