-- Pieces of text in a row.
use Rattle.std.proofs.Common.{◌≡◌, ℕ, suc, ◌+◌, ◌-◌, ◌<◌, ◌≤◌, List, [], ◌∷◌, ◌++◌, map, Ok, Some, Option, sym, refl, ap, ◌∙◌, append_assoc, append-nil, arith}
use Rattle.notation.proofs.Written.{then_shown, then_text}
use Rattle.notation.specs.Pieces.{between}
use Rattle.notation.specs.Text.{joined, sign_text}
use Rattle.std.proofs.lemmas.List.FromFn.{map-range_with_len_more}
use Rattle.std.proofs.Output.{has_written_of_eq}
use Rattle.std.specs.Fmt.{DisplaysOnOk, HasWritten, WritesOnOk}
use Rattle.std.specs.List.{range_with_len}
use Rattle.std.specs.declared.fmt.Formatter.{Formatter}

-- two rows, one after the other
pub joined_rows : (sign : List ℕ) (xs ys : List (List ℕ)) → joined sign (xs ++ ys) ≡ joined sign xs ++ (between sign xs ys ++ joined sign ys)
joined_rows sign [] ys = refl
joined_rows sign (x ∷ []) [] = sym (append-nil x)
joined_rows sign (x ∷ []) (y ∷ ys) = refl
joined_rows sign (x ∷ z ∷ zs) ys = ap (λ t. x ++ (sign ++ t)) (joined_rows sign (z ∷ zs) ys) ∙ simp append_assoc

-- the row of the pieces from place `from` to before place k
module _ (sign : List ℕ) (piece : ℕ → List ℕ) (from : ℕ) where
  abbrev pub row : ℕ → List ℕ
  row k = joined sign (map piece (range_with_len from (k - from)))

  row_more : (k : ℕ) → from ≤ k → row (k + 1) ≡ row k ++ (between sign (map piece (range_with_len from (k - from))) (piece k ∷ []) ++ piece k)
  row_more k h =
      let e : k + 1 - from ≡ (k - from) + 1 = omega arith in
      rw (e, map-range_with_len_more piece from (k - from) k (omega arith)) (joined_rows sign (map piece (range_with_len from (k - from))) (piece k ∷ []))

  pub row_begins : (k : ℕ) → from ≤ k → k ≤ from → row (k + 1) ≡ row k ++ piece k
  row_begins k h l =
      let z : k - from ≡ 0 = omega arith in
      row_more k h ∙ ap (λ m. row k ++ (between sign (map piece (range_with_len from m)) (piece k ∷ []) ++ piece k)) z

  pub row_goes_on : (k : ℕ) → from < k → row (k + 1) ≡ (row k ++ sign) ++ piece k
  row_goes_on k h =
      let n : k - from ≡ suc (k - from - 1) = omega arith in
      row_more k (omega arith) ∙ ap (λ m. row k ++ (between sign (map piece (range_with_len from m)) (piece k ∷ []) ++ piece k)) n ∙ sym (append_assoc (row k) sign (piece k))

-- the next piece is written: the first one alone, and each other one after the sign
module _ {W : Type 0} (took : W → List ℕ → W → Type 0) (sign : List ℕ) (piece : ℕ → List ℕ) (from k : ℕ) {f g g' h : Formatter W} {o : Option (List ℕ)} (shows : o ≡ Some (piece k)) where
  pub first_written : from ≤ k → k ≤ from → HasWritten took f (row sign piece from k) g → g' ≡ g → DisplaysOnOk took g' (Ok (tt {0})) o h → HasWritten took f (row sign piece from (k + 1)) h
  first_written l m so_far e last = has_written_of_eq took f _ _ h (sym (row_begins sign piece from k l m)) (then_shown shows e so_far last)

  pub next_written : from < k → {m : Formatter W} → HasWritten took f (row sign piece from k) g → WritesOnOk took g (Ok (tt {0})) sign m → g' ≡ m → DisplaysOnOk took g' (Ok (tt {0})) o h → HasWritten took f (row sign piece from (k + 1)) h
  next_written l so_far parted e last = has_written_of_eq took f _ _ h (sym (row_goes_on sign piece from k l)) (then_shown shows e (then_text refl so_far parted) last)

-- a sign asks only whether there is something, and a map does not change that
pub sign_mapped : {X Y : Type 0} (f : ℕ → X) (g h : ℕ → Y) (xs ys zs : List ℕ) → sign_text xs (ys ++ zs) ≡ sign_text (map f xs) (map g ys ++ map h zs)
sign_mapped f g h [] ys zs = refl
sign_mapped f g h (x ∷ xs) [] [] = refl
sign_mapped f g h (x ∷ xs) [] (z ∷ zs) = refl
sign_mapped f g h (x ∷ xs) (y ∷ ys) zs = refl

between_mapped : {X Y : Type 0} (sign : List ℕ) (f : ℕ → X) (g : ℕ → Y) (xs ys : List ℕ) → between sign xs ys ≡ between sign (map f xs) (map g ys)
between_mapped sign f g [] ys = refl
between_mapped sign f g (x ∷ xs) [] = refl
between_mapped sign f g (x ∷ xs) (y ∷ ys) = refl

pub two_rows : (sign parting : List ℕ) (f g : ℕ → List ℕ) (xs ys : List ℕ) → parting ≡ between sign xs ys → joined sign (map f xs) ++ (parting ++ joined sign (map g ys)) ≡ joined sign (map f xs ++ map g ys)
two_rows sign parting f g xs ys e =
    ap (λ t. joined sign (map f xs) ++ (t ++ joined sign (map g ys))) (e ∙ between_mapped sign f g xs ys) ∙ sym (joined_rows sign (map f xs) (map g ys))
