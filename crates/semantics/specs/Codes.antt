-- The numbers by which a table names relations.
use Rattle.std.specs.Prelude.{◌≡◌, ℕ, ◌<◌, Result, MatchResult}
use Rattle.semantics.specs.declared.Relation.{Relation}
use Rattle.semantics.specs.declared.Relation.TheVariants.{Less, AtMost, Equal, Unequal, AtLeast, More}
use Rattle.semantics.specs.declared.UnknownRelation.{UnknownRelation}

abbrev pub code_of : Relation → ℕ
code_of Less = 0
code_of AtMost = 1
code_of Equal = 2
code_of Unequal = 3
code_of AtLeast = 4
code_of More = 5

-- the relation with this code, or that none has it
abbrev pub Decodes : ℕ → Result Relation UnknownRelation → Type 0
Decodes code r = MatchResult r (λ relation. code_of relation ≡ code) (λ e. (e.0 ≡ code) × (5 < code))
