-- Rules and a table with the text that they should have.
use Rattle.std.specs.Prelude.{◌≡◌, ℕ, List, [], ◌∷◌, ◌++◌, pos, negsuc, codes}
use Rattle.notation.specs.Shown.{newline, shown}
use Rattle.notation.specs.Text.{rule_text}
use Rattle.semantics.specs.Programs.{Rule}
use Rattle.semantics.specs.SmallTables.{◌weighs◌, fact, over, rule, sum}
use Rattle.semantics.specs.declared.Relation.TheVariants.{AtLeast, Unequal}
use Rattle.table.specs.TwoRules.{two_rules}

abbrev pub letters : List (List ℕ)
letters = codes "a" ∷ codes "b" ∷ codes "c" ∷ codes "d" ∷ codes "e" ∷ codes "f" ∷ []

abbrev pub full_rule : Rule
full_rule = record { head = 0 ∷ 1 ∷ []; positive = 2 ∷ []; negative = 3 ∷ []; aggregates = over sum (4 weighs pos 4 ∷ 5 weighs negsuc 3 ∷ []) AtLeast (pos 8) ∷ [] }

pub record Examples : Type 0 where
  pub full : rule_text letters full_rule ≡ codes "a | b :- c, not d, sum{e:4, f:-4} >= 8."
  pub alone : rule_text letters (fact 0) ≡ codes "a."
  pub no_head : rule_text letters (rule [] (2 ∷ 3 ∷ []) []) ≡ codes ":- c, d."
  pub other_kind : rule_text letters (rule (0 ∷ []) [] (over 7 [] Unequal (negsuc 2) ∷ [])) ≡ codes "a :- kind7{} != -3."
  pub nothing : rule_text letters (rule [] [] []) ≡ codes ":- ."
  pub two : shown two_rules ≡ codes "statements 2, rules 2, literals 2, aggregates 1, members 1, name bytes 2" ++ (newline ++ (codes "a." ++ (newline ++ (codes "b :- count{a:1} > 0." ++ newline))))
  pub short : shown [] ≡ codes "refused 1 at 0" ++ newline
