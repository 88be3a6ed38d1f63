-- The findings that stand, as `standing: hood in, wheel out`.
use Rattle.std.specs.Prelude.{ℕ, List, [], ◌∷◌, ◌++◌, codes}
use Rattle.daybook.specs.Telling.{finding_text}
use Rattle.notation.specs.Shown.{newline}
use Rattle.semantics.specs.declared.Finding.{Finding}
use Rattle.std.specs.List.{flat_map}

module _ (names : List (List ℕ)) where
  -- each with a comma before it
  abbrev pub further_text : List Finding → List ℕ
  further_text findings = flat_map (λ f. codes ", " ++ finding_text names f) findings

  -- all that stand, or that there is none
  abbrev pub standing_text : List Finding → List ℕ
  standing_text [] = codes "standing: nothing\n"
  standing_text (f ∷ findings) = codes "standing: " ++ (finding_text names f ++ (further_text findings ++ newline))
