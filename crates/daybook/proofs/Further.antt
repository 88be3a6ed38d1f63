-- The findings so far and one more.
use Rattle.std.proofs.Common.{◌≡◌, ℕ, ◌+◌, ◌<◌, ◌≤◌, List, [], ◌++◌, length, get_or, take, codes, sym, ap, ◌∙◌}
use Rattle.daybook.specs.Standing.{further_text}
use Rattle.daybook.specs.Telling.{finding_text}
use Rattle.semantics.specs.declared.Finding.{Finding}
use Rattle.std.proofs.lemmas.List.{flat_map_more, take_all, take_more}
use Rattle.std.specs.List.{flat_map}

module _ (names : List (List ℕ)) (findings : List Finding) where
  pub further_more : (i : ℕ) (d : Finding) → i < length findings → further_text names (take i findings) ++ (codes ", " ++ finding_text names (get_or findings i d)) ≡ further_text names (take (i + 1) findings)
  further_more i d l =
      let piece = λ (f : Finding). codes ", " ++ finding_text names f in
      flat_map_more piece [] (take i findings) (get_or findings i d) ∙ sym (ap (flat_map piece) (take_more findings i d l))

  pub further_all : (i : ℕ) → length findings ≤ i → further_text names (take i findings) ≡ further_text names findings
  further_all i h = ap (further_text names) (take_all i findings h)
