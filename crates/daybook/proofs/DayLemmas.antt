-- What the lines of a journal say, read one after the other.
use Rattle.std.proofs.Common.{◌≡◌, ℕ, ◌+◌, List, [], ◌∷◌, ◌++◌, map, refl, sym, ap, ◌∙◌}
use Rattle.daybook.specs.Days.{lines_added, lines_noted, unmade_view, unmade_views, visits_added}
use Rattle.daybook.specs.Requests.{request_read}
use Rattle.std.proofs.lemmas.List.{map-append}
use Rattle.std.proofs.lemmas.List.Folds.{flat_map-map}
use Rattle.std.specs.List.{enumerate_from, flat_map}
use denote.Ref.{Bor}

map-flat_map : {X Y Z : Type 0} (f : Y → Z) (g : X → List Y) (xs : List X) → flat_map (λ x. map f (g x)) xs ≡ map f (flat_map g xs)
map-flat_map f g [] = refl
map-flat_map f g (x ∷ xs) = ap (λ t. map f (g x) ++ t) (map-flat_map f g xs) ∙ sym (map-append f (g x) (flat_map g xs))

without_numbers : {X Y : Type 0} (f : X → List Y) (n : ℕ) (xs : List X) → flat_map (λ p. f p.1) (enumerate_from n xs) ≡ flat_map f xs
without_numbers f n [] = refl
without_numbers f n (x ∷ xs) = ap (λ t. f x ++ t) (without_numbers f (n + 1) xs)

-- the lines that an iterator has given, with their numbers, are the lines of the text
module _ (names : List (List ℕ)) (given : List (ℕ × Bor (List ℕ))) (texts : List (List ℕ)) (all : map (λ p. (p.0, p.1.now)) given ≡ enumerate_from 0 texts) where
  pub lines_said : flat_map (λ p. lines_added (p.0 + 1) (request_read names p.1.now)) given ≡ lines_noted names texts
  lines_said = sym (flat_map-map (λ (p : ℕ × List ℕ). lines_added (p.0 + 1) (request_read names p.1)) (λ p. (p.0, p.1.now)) given) ∙ ap (flat_map (λ p. lines_added (p.0 + 1) (request_read names p.1))) all

  pub visits_said : flat_map (λ p. map (unmade_view names) (visits_added (request_read names p.1.now))) given ≡ unmade_views names texts
  visits_said =
      sym (flat_map-map (λ (p : ℕ × List ℕ). map (unmade_view names) (visits_added (request_read names p.1))) (λ p. (p.0, p.1.now)) given)
      ∙ ap (flat_map (λ p. map (unmade_view names) (visits_added (request_read names p.1)))) all
      ∙ without_numbers (λ text. map (unmade_view names) (visits_added (request_read names text))) 0 texts
      ∙ map-flat_map (unmade_view names) (λ text. visits_added (request_read names text)) texts
