-- On which rules statements stand, in some rows of a small program.
use Rattle.std.specs.Prelude.{◌≡◌, true, false, [], ◌∷◌, pos}
use Rattle.semantics.specs.Families.{house}
use Rattle.semantics.specs.Programs.{Program}
use Rattle.semantics.specs.declared.Relation.TheVariants.{Equal}
use Rattle.solver.specs.Support.{row_read, support_of}
use Rattle.solver.specs.declared.support.Support.TheVariants.{ByRule, ByNone, NotIn}

-- of the statements a, b, c:  a :- b.  a | b :- not c.  a | a.  c :- not b, count{a:1} = 1.
abbrev pub four_rules : Program
four_rules = record {
  statements = 3;
  rules =
      record { head = 0 ∷ []; positive = 1 ∷ []; negative = []; aggregates = [] }
      ∷ record { head = 0 ∷ 1 ∷ []; positive = []; negative = 2 ∷ []; aggregates = [] }
      ∷ record { head = 0 ∷ 0 ∷ []; positive = []; negative = []; aggregates = [] }
      ∷ record {
        head = 2 ∷ [];
        positive = [];
        negative = 1 ∷ [];
        aggregates = record { kind = 0; relation = Equal; bound = pos 1; members = record { statement = 0; weight = pos 1 } ∷ [] } ∷ [];
      }
      ∷ [];
}

pub record SupportExamples : Type 0 where
  pub first_of_three : support_of house four_rules (true ∷ true ∷ false ∷ []) 0 ≡ ByRule 0
  pub second : support_of house four_rules (true ∷ false ∷ false ∷ []) 0 ≡ ByRule 1
  pub listed_twice : support_of house four_rules (true ∷ false ∷ true ∷ []) 0 ≡ ByRule 2
  pub other_head : support_of house four_rules (true ∷ true ∷ false ∷ []) 1 ≡ ByNone
  pub aggregate : support_of house four_rules (true ∷ false ∷ true ∷ []) 2 ≡ ByRule 3
  pub aggregate_false : support_of house four_rules (false ∷ false ∷ true ∷ []) 2 ≡ ByNone
  pub not_in : support_of house four_rules (false ∷ false ∷ true ∷ []) 0 ≡ NotIn
  pub past_the_last : support_of house four_rules (true ∷ true ∷ true ∷ []) 7 ≡ NotIn
  pub bytes : row_read 3 (1 ∷ 2 ∷ 1 ∷ 1 ∷ []) ≡ true ∷ false ∷ true ∷ []
  pub other_bytes : row_read 3 (0 ∷ 3 ∷ []) ≡ false ∷ false ∷ false ∷ []
