-- Parts of lists: their lengths, what stands in them, and parts put together.
use Rattle.std.proofs.Common.{◌≡◌, ℕ, ◌+◌, ◌-◌, ◌<◌, ◌≤◌, List, ◌++◌, map, length, get_or, take, drop, sym, ap, ◌∙◌, add_assoc, arith, take-add}
use Rattle.semantics.proofs.Lists.{among_place}
use Rattle.semantics.specs.Lists.{Among}
use Rattle.std.proofs.lemmas.List.FromFn.{get_or-map-range_with_len, length-map-range_with_len}
use Rattle.std.proofs.lemmas.List.{drop-drop, drop-take, get_or-drop, get_or-take, length-drop, length-take, take-take}
use Rattle.std.specs.List.{range_with_len}
use Rattle.table.specs.Contents.{slice}

module _ {X : Type 0} where
  pub length_slice : (first n : ℕ) (xs : List X) → first + n ≤ length xs → length (slice first n xs) ≡ n
  length_slice first n xs h = simp (length-take, length-drop) (omega arith)

  pub slice_at : (first n : ℕ) (xs : List X) (k : ℕ) (d : X) → k < n → get_or (slice first n xs) k d ≡ get_or xs (first + k) d
  slice_at first n xs k d l = get_or-take n (drop first xs) k d l ∙ get_or-drop first xs k d

  -- two slices, of which one follows the other
  slices_joined : (first m n : ℕ) (xs : List X) → slice first m xs ++ slice (first + m) n xs ≡ slice first (m + n) xs
  slices_joined first m n xs = sym (take-add m n (drop first xs) ∙ ap (λ ys. take m (drop first xs) ++ take n ys) (drop-drop m first xs))

  pub three_slices_joined : (first l m n : ℕ) (xs : List X) → slice first l xs ++ slice (first + l) m xs ++ slice (first + l + m) n xs ≡ slice first (l + m + n) xs
  three_slices_joined first l m n xs = rw (slices_joined first l m xs, add_assoc first l m) (slices_joined first (l + m) n xs)

  pub slice_of_slice : (first n start m : ℕ) (xs : List X) → first + n ≤ m → slice first n (slice start m xs) ≡ slice (start + first) n xs
  slice_of_slice first n start m xs h =
      let e : m ≡ first + (m - first) = omega arith in
      ap (λ k. take n (drop first (take k (drop start xs)))) e
      ∙ ap (take n) (drop-take first (m - first) (drop start xs))
      ∙ take-take n (m - first) (drop first (drop start xs)) (omega arith)
      ∙ ap (take n) (drop-drop first start xs)

  -- what stands in a slice stands at a place of the list
  pub among_slice : (first n : ℕ) (xs : List X) (x : X) → Among x (slice first n xs) → (k : ℕ) × (k < n) × ((d : X) → get_or xs (first + k) d ≡ x)
  among_slice first n xs x m =
      let p = among_place (slice first n xs) x m in
      let l : p.0 < n = omega (arith, p.1, length-take n (drop first xs)) in
      (p.0, l, λ d. sym (slice_at first n xs p.0 d l) ∙ p.2 d)

  -- the same of the list of the values of f
  pub among_counted : (f : ℕ → X) (n : ℕ) (x : X) → Among x (map f (range_with_len 0 n)) → (i : ℕ) × (i < n) × (f i ≡ x)
  among_counted f n x m =
      let p = among_place (map f (range_with_len 0 n)) x m in
      let l : p.0 < n = omega (arith, p.1, length-map-range_with_len f 0 n) in
      (p.0, l, sym (get_or-map-range_with_len f 0 n p.0 p.0 x l (omega arith)) ∙ p.2 x)

  pub among_counted_slice : (f : ℕ → X) (n first m : ℕ) (x : X) → first + m ≤ n → Among x (slice first m (map f (range_with_len 0 n))) → (k : ℕ) × (k < m) × (f (first + k) ≡ x)
  among_counted_slice f n first m x h a =
      let p = among_slice first m (map f (range_with_len 0 n)) x a in
      (p.0, p.1, sym (get_or-map-range_with_len f 0 n (first + p.0) (first + p.0) x (omega (arith, p.1)) (omega arith)) ∙ p.2 x)

  -- equal lists of values have equal values
  pub same_counted : (f g : ℕ → X) (m n : ℕ) → map f (range_with_len 0 m) ≡ map g (range_with_len 0 n) → m ≡ n → (i : ℕ) → i < m → f i ≡ g i
  same_counted f g m n e same i l =
      sym (get_or-map-range_with_len f 0 m i i (f i) l (omega arith))
      ∙ ap (λ xs. get_or xs i (f i)) e
      ∙ get_or-map-range_with_len g 0 n i i (f i) (omega arith) (omega arith)
