-- The open statements: how many they are, and the first of them.
use Rattle.std.proofs.Common.{◌≡◌, ◌≢◌, ℕ, ◌+◌, ◌<◌, ◌≤◌, ◌^◌, Bool, true, false, not, ◌&&◌, nat_lt, List, [], ◌∷◌, Option, Some, None, map, length, sym, refl, ap, subst, ◌∙◌, ⊎_elim, arith}
use Rattle.marking.proofs.Digits.{as_many, none_past}
use Rattle.marking.proofs.Held.{absent_held, long_held, present_held}
use Rattle.marking.specs.Fields.{IsApart, marks_held}
use Rattle.marking.specs.Marks.{FirstOpen, how_open, is_open, is_out}
use Rattle.marking.specs.Sets.{FirstOf, contains, row}
use Rattle.marking.specs.declared.marking.Marking.TheInside.{Inside}
use Rattle.marking.specs.declared.set.Set.{Set}
use Rattle.semantics.specs.FullMarkings.{is_in}
use Rattle.semantics.specs.Markings.{at}
use Rattle.semantics.specs.Rows.{has, how_many}
use Rattle.semantics.specs.declared.Mark.{Mark}
use Rattle.semantics.specs.declared.Mark.TheVariants.{Open, In, Out}
use Rattle.std.proofs.lemmas.Bool.{and_parts, cases_lt, le-ltb, lt-ltb, ltb-true, true≢false}
use Rattle.std.proofs.lemmas.List.{get_or-map, get_or_past, length-map}

neither_set : (v : Mark) (b : Bool) → ((b && not (is_in v)) && not (is_out v)) ≡ (b && is_open v)
neither_set Open true = refl
neither_set In true = refl
neither_set Out true = refl
neither_set Open false = refl
neither_set In false = refl
neither_set Out false = refl

few_enough : (q n : ℕ) → n ≤ 128 → (nat_lt q n && nat_lt q 128) ≡ nat_lt q n
few_enough q n f = ⊎_elim (λ l. rw (lt-ltb q n l, lt-ltb q 128 (omega arith)) refl) (λ l. rw (le-ltb q n l) refl) (cases_lt q n)

-- the statements that are in neither set
pub open_held : (a : Inside) (m : List Mark) → IsApart a → marks_held a ≡ m → (q : ℕ) → (((nat_lt q a.statements && nat_lt q 128) && not (contains a.present q)) && not (contains a.absent q)) ≡ (nat_lt q (length m) && is_open (at m q))
open_held a m h e q = rw (few_enough q a.statements h.few, present_held a m h e q, absent_held a m h e q, long_held a m e) (neither_set (at m q) (nat_lt q (length m)))

how_open_row : (m : List Mark) → how_many (map is_open m) ≡ how_open m
how_open_row [] = refl
how_open_row (Open ∷ m) = ap (λ n. 1 + n) (how_open_row m)
how_open_row (In ∷ m) = ap (λ n. 0 + n) (how_open_row m)
how_open_row (Out ∷ m) = ap (λ n. 0 + n) (how_open_row m)

open_row : (m : List Mark) (q : ℕ) → has (map is_open m) q ≡ (nat_lt q (length m) && is_open (at m q))
open_row m q =
    ⊎_elim
    (λ l. get_or-map is_open m q Open false l ∙ rw (lt-ltb q (length m) l) refl)
    (λ l. get_or_past (map is_open m) q false (subst (λ n. n ≤ q) (sym (length-map m is_open)) l) ∙ rw (le-ltb q (length m) l) refl)
    (cases_lt q (length m))

pub open_counted : (w : Set) (m : List Mark) → w.digits < 2 ^ 128 → ((q : ℕ) → contains w q ≡ (nat_lt q (length m) && is_open (at m q))) → how_many (row w) ≡ how_open m
open_counted w m l same = as_many w (map is_open m) (none_past w l) (λ q. open_row m q ∙ sym (same q)) ∙ how_open_row m

open_is : (v : Mark) → is_open v ≡ true → v ≡ Open
open_is Open e = refl
open_is In e = absurd (true≢false (sym e))
open_is Out e = absurd (true≢false (sym e))

pub first_open_held : (m : List Mark) (w : Set) → ((q : ℕ) → contains w q ≡ (nat_lt q (length m) && is_open (at m q))) → (r : Option ℕ) → FirstOf w r → FirstOpen m r
first_open_held m w same r = elim r as (λ r. FirstOf w r → FirstOpen m r) [ None ↦ λ f q l. shut q l (f q) | Some q ↦ λ f. (inside q f.1, opened q f.1, λ k l. shut k (omega (arith, inside q f.1)) (f.2 k l)) ]
  where
    opened : (q : ℕ) → contains w q ≡ true → at m q ≡ Open
    opened q t = open_is (at m q) (and_parts (nat_lt q (length m)) (is_open (at m q)) (sym (same q) ∙ t)).1

    inside : (q : ℕ) → contains w q ≡ true → q < length m
    inside q t = ltb-true q (length m) (and_parts (nat_lt q (length m)) (is_open (at m q)) (sym (same q) ∙ t)).0

    shut : (q : ℕ) → q < length m → contains w q ≡ false → at m q ≢ Open
    shut q l f o = true≢false (sym (same q ∙ rw (lt-ltb q (length m) l, o) refl) ∙ f)
