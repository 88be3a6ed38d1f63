-- What each operation on the digits of sets says of the statements.
use Rattle.std.proofs.Common.{◌≡◌, ℕ, zero, suc, ◌+◌, ◌-◌, ◌*◌, ◌%◌, ◌/◌, ◌^◌, ◌<◌, ◌≤◌, min, max, Bool, true, false, cond, not, ◌&&◌, ◌||◌, ◌==◌, nat_lt, nat_eq, bit_and, bit_or, List, [], ◌∷◌, Some, map, sym, refl, ap, ◌∙◌, ⊎_elim, zero-add, arith}
use Rattle.marking.specs.Digits.{digit_of, digits_of_row}
use Rattle.marking.specs.Sets.{Alone, FirstOf, contains, row}
use Rattle.marking.specs.declared.set.Set.{Set}
use Rattle.semantics.specs.Rows.{has, how_many}
use Rattle.std.proofs.lemmas.Bool.{cases_eq, cases_lt, eq-eqb, eqb-false, eqb-true, false≢true, le-ltb, lt-ltb, ne_eqb}
use Rattle.std.proofs.lemmas.List.{get_or_past}
use Rattle.std.proofs.lemmas.List.FromFn.{get_or-map-range_with_len, length-map-range_with_len}
use Rattle.std.proofs.lemmas.Nat.{one_shl}
use Rattle.std.proofs.lemmas.Nat.Bits.{bit_at-lt, bit_at-pow_other, bit_at-pow_same, bit_at-trailing_zeros, bit_at-zero, bit_at_above, bit_at_and, bit_at_not, bit_at_ones, bit_at_ones_above, bit_at_or, same_from_bits, shr_and_one}
use Rattle.std.proofs.lemmas.Simd.{ones-mask_l_cons}
use Rattle.std.specs.Int.{bit_at, w128}
use Rattle.std.specs.Int.Count.{count_trailing_zeros, ones}
use Rattle.std.specs.List.{range_with_len}
use lib.Lanes.{mask_l}

min_digit : (x y : ℕ) → x < 2 → y < 2 → nat_eq (min x y) 1 ≡ (nat_eq x 1 && nat_eq y 1)
min_digit zero zero l k = refl
min_digit zero (suc zero) l k = refl
min_digit zero (suc (suc y)) l k = absurd (omega arith)
min_digit (suc zero) zero l k = refl
min_digit (suc zero) (suc zero) l k = refl
min_digit (suc zero) (suc (suc y)) l k = absurd (omega arith)
min_digit (suc (suc x)) y l k = absurd (omega arith)

max_digit : (x y : ℕ) → x < 2 → y < 2 → nat_eq (max x y) 1 ≡ (nat_eq x 1 || nat_eq y 1)
max_digit zero zero l k = refl
max_digit zero (suc zero) l k = refl
max_digit zero (suc (suc y)) l k = absurd (omega arith)
max_digit (suc zero) zero l k = refl
max_digit (suc zero) (suc zero) l k = refl
max_digit (suc zero) (suc (suc y)) l k = absurd (omega arith)
max_digit (suc (suc x)) y l k = absurd (omega arith)

other_digit : (x : ℕ) → x < 2 → nat_eq (1 - x) 1 ≡ not (nat_eq x 1)
other_digit zero l = refl
other_digit (suc zero) l = refl
other_digit (suc (suc x)) l = absurd (omega arith)

-- a set has no statement from 128 on
pub none_past : (s : Set) → s.digits < 2 ^ 128 → (q : ℕ) → 128 ≤ q → contains s q ≡ false
unfolding contains
none_past s l q k = ap (λ d. nat_eq d 1) (bit_at_above s.digits 128 q l k)

pub in_none : (q : ℕ) → contains (record { digits = 0 }) q ≡ false
unfolding contains
in_none q = ap (λ d. nat_eq d 1) (bit_at-zero q)

pub in_common : (s t : Set) (q : ℕ) → contains (record { digits = bit_and s.digits t.digits }) q ≡ (contains s q && contains t q)
unfolding contains
in_common s t q = ap (λ d. nat_eq d 1) (bit_at_and s.digits t.digits q) ∙ min_digit _ _ (bit_at-lt s.digits q) (bit_at-lt t.digits q)

pub in_union : (s t : Set) (q : ℕ) → contains (record { digits = bit_or s.digits t.digits }) q ≡ (contains s q || contains t q)
unfolding contains
in_union s t q = ap (λ d. nat_eq d 1) (bit_at_or s.digits t.digits q) ∙ max_digit _ _ (bit_at-lt s.digits q) (bit_at-lt t.digits q)

-- the digits that are not those of t
in_others : (t : Set) → t.digits < 2 ^ 128 → (q : ℕ) → q < 128 → contains (record { digits = 2 ^ 128 - 1 - t.digits }) q ≡ not (contains t q)
unfolding contains
in_others t k q l = ap (λ d. nat_eq d 1) (bit_at_not w128 t.digits q k l) ∙ other_digit _ (bit_at-lt t.digits q)

pub in_without : (s t : Set) → s.digits < 2 ^ 128 → t.digits < 2 ^ 128 → (q : ℕ) → contains (record { digits = bit_and s.digits (2 ^ 128 - 1 - t.digits) }) q ≡ (contains s q && not (contains t q))
in_without s t l k q =
    in_common s (record { digits = 2 ^ 128 - 1 - t.digits }) q
    ∙ ⊎_elim
    (λ h. ap (λ b. contains s q && b) (in_others t k q h))
    (λ h. let e : contains s q ≡ false = none_past s l q h in rw e refl)
    (cases_lt q 128)

pub in_below : (n : ℕ) → n < 128 → (q : ℕ) → contains (record { digits = 1 * 2 ^ n % 2 ^ 128 - 1 }) q ≡ (nat_lt q n && nat_lt q 128)
unfolding contains
in_below n l q =
    ap (λ d. nat_eq (bit_at (d - 1) q) 1) (one_shl n 128 l)
    ∙ ⊎_elim
    (λ h. rw (bit_at_ones n q h, lt-ltb q n h, lt-ltb q 128 (omega arith)) refl)
    (λ h. rw (bit_at_ones_above n q h, le-ltb q n h) refl)
    (cases_lt q n)

pub in_all : (n : ℕ) → 128 ≤ n → (q : ℕ) → contains (record { digits = 2 ^ 128 - 1 }) q ≡ (nat_lt q n && nat_lt q 128)
unfolding contains
in_all n l q =
    ⊎_elim
    (λ h. ap (λ d. nat_eq d 1) (bit_at_ones 128 q h) ∙ rw (lt-ltb q n (omega arith), lt-ltb q 128 h) refl)
    (λ h. ap (λ d. nat_eq d 1) (bit_at_ones_above 128 q h) ∙ rw (le-ltb q 128 h) (sym (and_none (nat_lt q n))))
    (cases_lt q 128)
  where
    and_none : (b : Bool) → (b && false) ≡ false
    and_none true = refl
    and_none false = refl

pub in_single : (n : ℕ) → n < 128 → (q : ℕ) → contains (record { digits = 1 * 2 ^ n % 2 ^ 128 }) q ≡ (q == n && nat_lt q 128)
unfolding contains
in_single n l q =
    ap (λ d. nat_eq (bit_at d q) 1) (one_shl n 128 l)
    ∙ ⊎_elim
    (λ (e : q ≡ n). rw e (rw (bit_at-pow_same n, eq-eqb n n refl, lt-ltb n 128 l) refl))
    (λ d. rw (bit_at-pow_other n q d, ne_eqb q n d) refl)
    (cases_eq q n)

pub has_digit : (s : Set) (q : ℕ) → nat_eq (bit_and (s.digits / 2 ^ q) 1) 1 ≡ contains s q
unfolding contains
has_digit s q = ap (λ d. nat_eq d 1) (shr_and_one s.digits q)

-- two sets with the same statements have the same digits
pub same_digits : (s t : Set) → ((q : ℕ) → contains s q ≡ contains t q) → s.digits ≡ t.digits
same_digits s t h = same_from_bits s.digits t.digits (λ i. sym (digit_of s i) ∙ ap (λ b. cond b 1 0) (h i) ∙ digit_of t i)

pub empty_digits : (s : Set) → ((q : ℕ) → contains s q ≡ false) → s.digits ≡ 0
empty_digits s h = same_digits s (record { digits = 0 }) (λ q. h q ∙ sym (in_none q))

pub no_digits : (s : Set) → s.digits ≡ 0 → (q : ℕ) → contains s q ≡ false
unfolding contains
no_digits s e q = rw e (ap (λ d. nat_eq d 1) (bit_at-zero q))

-- the least digit that is one
pub first_digit : (s : Set) → s.digits < 2 ^ 128 → 0 < s.digits → FirstOf s (Some (count_trailing_zeros 128 s.digits))
unfolding contains
first_digit s l h =
    let z = bit_at-trailing_zeros w128 s.digits h l in
    (z.0, ap (λ d. nat_eq d 1) z.1, λ k j. ap (λ d. nat_eq d 1) (z.2 k j))

pub some_digit : (s : Set) → s.digits < 2 ^ 128 → nat_eq s.digits 0 ≡ false → (q : ℕ) × (contains s q ≡ true)
some_digit s l e =
    let z : FirstOf s (Some (count_trailing_zeros 128 s.digits)) = first_digit s l (omega (arith, eqb-false s.digits 0 e)) in
    (count_trailing_zeros 128 s.digits, z.1)

-- a set of nothing has no statement alone, and one that is not the set of its first has none either
pub none_alone : (s : Set) → ((q : ℕ) → contains s q ≡ false) → (q : ℕ) → Alone s q → ⊥
none_alone s none q a = false≢true (sym (none q) ∙ a q ∙ eq-eqb q q refl)

pub several_alone : (s t : Set) (f : ℕ) → f < 128 → contains s f ≡ true → ((q : ℕ) → contains t q ≡ (q == f && nat_lt q 128)) → nat_eq s.digits t.digits ≡ false → (q : ℕ) → Alone s q → ⊥
several_alone s t f l e one d q a = eqb-false s.digits t.digits d (same_digits s t each)
  where
    here : f ≡ q
    here = eqb-true f q (sym (a f) ∙ e)

    each : (k : ℕ) → contains s k ≡ contains t k
    each k =
        a k
        ∙ ⊎_elim
        (λ (n : k ≡ f). rw (n, eq-eqb f q here, one f, eq-eqb f f refl, lt-ltb f 128 l) refl)
        (λ n. rw (one k, ne_eqb k f n, ne_eqb k q (λ m. n (m ∙ sym here))) refl)
        (cases_eq k f)

-- how many statements a row has is how many digits are one
pub ones_of_row : (r : List Bool) → ones (mask_l r) ≡ how_many r
unfolding ones
ones_of_row [] = refl
ones_of_row (b ∷ r) = ones-mask_l_cons b r ∙ ap (λ n. cond b 1 0 + n) (ones_of_row r)

pub count_of_row : (s : Set) (r : List Bool) → ((q : ℕ) → has r q ≡ contains s q) → ones s.digits ≡ how_many r
count_of_row s r h = ap ones (sym (digits_of_row s r h)) ∙ ones_of_row r

pub in_row : (s : Set) → ((q : ℕ) → 128 ≤ q → contains s q ≡ false) → (q : ℕ) → has (row s) q ≡ contains s q
unfolding row
in_row s none q =
    ⊎_elim
    (λ l. get_or-map-range_with_len (contains s) 0 128 q q false l (zero-add q))
    (λ l. get_or_past (map (contains s) (range_with_len 0 128)) q false (rw (length-map-range_with_len (contains s) 0 128) l) ∙ sym (none q l))
    (cases_lt q 128)

-- a row with the same statements as the row of a set has as many
pub as_many : (s : Set) (r : List Bool) → ((q : ℕ) → 128 ≤ q → contains s q ≡ false) → ((q : ℕ) → has r q ≡ contains s q) → how_many (row s) ≡ how_many r
as_many s r none h = sym (count_of_row s (row s) (in_row s none)) ∙ count_of_row s r h
