-- The digits of a set, from a row that has its statements.
use Rattle.std.specs.Prelude.{◌≡◌, ◌==◌, ℕ, zero, suc, ◌<◌, Bool, List, cond, refl}
use Rattle.marking.specs.Sets.{contains}
use Rattle.marking.specs.declared.set.Set.{Set}
use Rattle.semantics.specs.Rows.{has}
use Rattle.std.proofs.Common.{ap, arith, ◌∙◌}
use Rattle.std.proofs.lemmas.Nat.Bits.{bit_at-lt, same_from_bits}
use Rattle.std.proofs.lemmas.Simd.{bit_mask_l}
use Rattle.std.specs.Int.{bit_at}
use lib.Lanes.{mask_l}

digit : (d : ℕ) → d < 2 → cond (d == 1) 1 0 ≡ d
digit zero l = refl
digit (suc zero) l = refl
digit (suc (suc d)) l = absurd (omega arith)

-- the digit of a statement is one just where the set has it
pub digit_of : (s : Set) (q : ℕ) → cond (contains s q) 1 0 ≡ bit_at s.digits q
unfolding contains
digit_of s q = digit (bit_at s.digits q) (bit_at-lt s.digits q)

pub digits_of_row : (s : Set) (r : List Bool) → ((q : ℕ) → has r q ≡ contains s q) → mask_l r ≡ s.digits
digits_of_row s r h = same_from_bits (mask_l r) s.digits (λ i. bit_mask_l r i ∙ ap (λ b. cond b 1 0) (h i) ∙ digit_of s i)
