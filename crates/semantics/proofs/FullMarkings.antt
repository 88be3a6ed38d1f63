-- Rows that extend a marking, and the one row that extends a full one.
use Rattle.std.proofs.Common.{◌≡◌, ℕ, ◌<◌, Bool, true, false, List, length, set, sym, refl, ap, ◌∙◌, subst, ⊎_elim, arith}
use Rattle.std.proofs.lemmas.List.{ext_get_or, get_or-map, get_or_past, get_or-set_same, length-map, length-set}
use Rattle.std.proofs.lemmas.Bool.{both_ways, cases_lt, false≢true}
use Rattle.semantics.specs.declared.Mark.{Mark}
use Rattle.semantics.specs.declared.Mark.TheVariants.{Open, In, Out}
use Rattle.semantics.specs.FullMarkings.{is_in, row_of, Full, Extends}
use Rattle.semantics.specs.Markings.{at, marked, Allows, Below}
use Rattle.semantics.specs.Rows.{has}
use Rattle.semantics.proofs.Marks.{allows_in, mark_adds, mark_keeps}

-- what a row has is a statement of it
pub has_inside : (s : List Bool) (q : ℕ) → has s q ≡ true → q < length s
has_inside s q h = ⊎_elim (λ l. l) (λ l. absurd (both_ways (has s q) (get_or_past s q false l) h)) (cases_lt q (length s))

-- the row of a marking has what is marked in, and no more
pub row_has : (m : List Mark) (q : ℕ) → has (row_of m) q ≡ is_in (at m q)
row_has m q =
    ⊎_elim
    (λ l. get_or-map is_in m q Open false l)
    (λ l. get_or_past (row_of m) q false (omega (arith, length-map m is_in)) ∙ sym (ap is_in (get_or_past m q Open l)))
    (cases_lt q (length m))

in_mark : (v : Mark) → is_in v ≡ true → v ≡ In
in_mark Open e = absurd (false≢true e)
in_mark In e = refl
in_mark Out e = absurd (false≢true e)

not_in : (v : Mark) → (v ≡ In → ⊥) → is_in v ≡ false
not_in Open n = refl
not_in In n = absurd (n refl)
not_in Out n = refl

pub in_row : (m : List Mark) (q : ℕ) → at m q ≡ In → has (row_of m) q ≡ true
in_row m q e = row_has m q ∙ ap is_in e

pub not_in_row : (m : List Mark) (q : ℕ) → (at m q ≡ In → ⊥) → has (row_of m) q ≡ false
not_in_row m q n = row_has m q ∙ not_in (at m q) n

pub row_in : (m : List Mark) (q : ℕ) → has (row_of m) q ≡ true → at m q ≡ In
row_in m q e = in_mark (at m q) (sym (row_has m q) ∙ e)

pub row_extends : (m : List Mark) → Extends m (row_of m)
row_extends m = record {
  long = length-map m is_in;
  agrees = λ q. subst (Allows (at m q)) (sym (row_has m q)) (allows_in (at m q));
}

-- what is marked in or out allows one truth value
pub allowed_once : (v : Mark) (b : Bool) → (v ≡ Open → ⊥) → Allows v b → b ≡ is_in v
allowed_once Open b n a = absurd (n refl)
allowed_once In b n a = a true refl
allowed_once Out b n a = a false refl

-- where a statement is not open, a row that extends the marking has it or lacks it as its row does
pub row_fixed : (m : List Mark) (s : List Bool) (q : ℕ) → (at m q ≡ Open → ⊥) → Extends m s → has s q ≡ is_in (at m q)
row_fixed m s q n x = allowed_once (at m q) (has s q) n (x.agrees q)

pub only_row : (m : List Mark) (s : List Bool) → Full m → Extends m s → s ≡ row_of m
only_row m s f x =
    ext_get_or false s (row_of m) (x.long ∙ sym (length-map m is_in))
    (λ q l. row_fixed m s q (f q (omega (arith, x.long))) x ∙ sym (row_has m q))

-- a row that extends more marks extends fewer
pub below_extends : (m n : List Mark) (s : List Bool) → length n ≡ length m → Below m n → Extends n s → Extends m s
below_extends m n s l b x = record { long = x.long ∙ l; agrees = λ q v e. x.agrees q v (b q v e) }

-- one mark more, as the row has it
pub marked_extends : (m : List Mark) (q : ℕ) (x : Bool) (s : List Bool) → q < length m → has s q ≡ x → Extends m s → Extends (set m q (marked x)) s
marked_extends m q x s l e h = record {
  long = h.long ∙ sym (length-set m q (marked x));
  agrees = mark_keeps m q x l (λ r y. has s r ≡ y) h.agrees e;
}

pub extends_marked : (m : List Mark) (q : ℕ) (x : Bool) (s : List Bool) → q < length m → Extends (set m q (marked x)) s → has s q ≡ x
extends_marked m q x s l h = h.agrees q x (get_or-set_same m q (marked x) Open l)

-- and a mark on an open statement takes no other row away
pub extends_unmarked : (m : List Mark) (q : ℕ) (x : Bool) (s : List Bool) → at m q ≡ Open → Extends (set m q (marked x)) s → Extends m s
extends_unmarked m q x s o h = below_extends m (set m q (marked x)) s (length-set m q (marked x)) (mark_adds m q x o) h
