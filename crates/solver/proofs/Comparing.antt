-- What is left of a row, compared with the row.
use Rattle.std.proofs.Common.{◌≡◌, Bool, ℕ, ◌<◌, true, false, not, List, length, refl, sym, ap, ◌∙◌, arith}
use Rattle.std.proofs.lemmas.Bool.{false≢true, not-true}
use Rattle.std.proofs.Common.{MatchBool, subst, zero-add}
use Rattle.std.proofs.lemmas.List.{length-map}
use Rattle.std.proofs.lemmas.List.FromFn.{get_or-range_with_len, length-range_with_len}
use Rattle.std.specs.List.{AllWithin, HoldsAt, range_with_len}
use Rattle.marking.specs.Marks.{is_out}
use Rattle.semantics.proofs.FullMarkings.{has_inside, row_has}
use Rattle.semantics.proofs.Marks.{marked_inside}
use Rattle.semantics.specs.FullMarkings.{Full, is_in, row_of}
use Rattle.semantics.specs.Markings.{at}
use Rattle.semantics.specs.Rows.{has}
use Rattle.semantics.specs.declared.Mark.{Mark}
use Rattle.semantics.specs.declared.Mark.TheVariants.{Open, In, Out}
use Rattle.solver.proofs.Removing.{rest_has}
use Rattle.solver.specs.Smaller.{rest}

-- whether a number below n passes, as a search through the numbers finds it
pub any_below : (found : Bool) (n : ℕ) (Yes No : ℕ → Type 0)
    → MatchBool found ((k : ℕ) × (k < length (range_with_len 0 n)) × HoldsAt Yes (range_with_len 0 n) k) (AllWithin No (range_with_len 0 n) 0 (length (range_with_len 0 n)))
    → (found ≡ true → (k : ℕ) × (k < n) × Yes k) × (found ≡ false → (k : ℕ) → k < n → No k)
any_below true n Yes No (k, l, h) = let below : k < n = omega (arith, l, length-range_with_len 0 n) in
    ((λ e. (k, below, subst Yes (get_or-range_with_len 0 n k 0 below ∙ zero-add k) (h 0))), λ e. absurd (false≢true (sym e)))
any_below false n Yes No h =
    ((λ e. absurd (false≢true e)), λ e k below. subst No (get_or-range_with_len 0 n k 0 below ∙ zero-add k) (h k 0 (omega arith) (omega (arith, below, length-range_with_len 0 n))))

-- a mark by what is told of it
pub in_mark : (v : Mark) → is_in v ≡ true → v ≡ In
in_mark Open e = absurd (false≢true e)
in_mark In e = refl
in_mark Out e = absurd (false≢true e)

pub out_mark : (v : Mark) → is_out v ≡ true → v ≡ Out
out_mark Open e = absurd (false≢true e)
out_mark In e = absurd (false≢true e)
out_mark Out e = refl

-- a mark that is neither open nor in
is_out_else : (v : Mark) → (v ≡ Open → ⊥) → is_in v ≡ false → is_out v ≡ true
is_out_else Open n e = absurd (n refl)
is_out_else In n e = absurd (false≢true (sym e))
is_out_else Out n e = refl

-- what is left is what is marked out
module _ (m : List Mark) (q : ℕ) where
  pub left_out : Full m → has (rest (row_of m)) q ≡ true → is_out (at m q) ≡ true
  left_out full h =
      let l : q < length m = omega (arith, has_inside (rest (row_of m)) q h, length-map (row_of m) not, length-map m is_in) in
      is_out_else (at m q) (full q l) (sym (row_has m q) ∙ not-true (has (row_of m) q) (sym (rest_has (row_of m) q (omega (arith, l, length-map m is_in))) ∙ h))

  pub out_left : is_out (at m q) ≡ true → has (rest (row_of m)) q ≡ true
  out_left e =
      let o = out_mark (at m q) e in
      rest_has (row_of m) q (omega (arith, marked_inside m q false o, length-map m is_in)) ∙ ap not (row_has m q ∙ ap is_in o)
