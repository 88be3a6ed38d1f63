-- The fields of a marking: the statements that are in, those that are out, and how many there are.
use Rattle.std.specs.Prelude.{◌≡◌, ℕ, ◌<◌, ◌≤◌, Bool, true, false, List, length, map, refl}
use Rattle.std.proofs.Common.{sym, ap, subst, ◌∙◌, zero-add, ⊎_elim}
use Rattle.marking.specs.Digits.{digits_of_row}
use Rattle.marking.specs.Marks.{is_out}
use Rattle.marking.specs.Sets.{contains}
use Rattle.marking.specs.declared.marking.Marking.TheInside.{Inside}
use Rattle.semantics.specs.FullMarkings.{is_in}
use Rattle.semantics.specs.Markings.{at}
use Rattle.semantics.specs.Rows.{has}
use Rattle.semantics.specs.declared.Mark.{Mark}
use Rattle.semantics.specs.declared.Mark.TheVariants.{Open, In, Out}
use Rattle.std.proofs.lemmas.Bool.{cases_lt}
use Rattle.std.proofs.lemmas.List.{get_or-map, get_or_past, length-map}
use Rattle.std.proofs.lemmas.List.FromFn.{get_or-map-range_with_len, length-map-range_with_len}
use Rattle.std.specs.List.{range_with_len}
use lib.Lanes.{mask_l}

pub record IsApart (a : Inside) : Type 0 where
  pub few : a.statements ≤ 128
  pub present : (q : ℕ) → a.statements ≤ q → contains a.present q ≡ false
  pub absent : (q : ℕ) → a.statements ≤ q → contains a.absent q ≡ false
  pub apart : (q : ℕ) → contains a.present q ≡ true → contains a.absent q ≡ false

-- the mark of a statement that is in, or out
abbrev pub mark_of : Bool → Bool → Mark
mark_of true b = In
mark_of false true = Out
mark_of false false = Open

-- the marks of the statements
unfoldable pub marks_held : Inside → List Mark
marks_held a = map (λ q. mark_of (contains a.present q) (contains a.absent q)) (range_with_len 0 a.statements)

pub length_held : (a : Inside) → length (marks_held a) ≡ a.statements
unfolding marks_held
length_held a = length-map-range_with_len _ 0 a.statements

pub held_below : (a : Inside) (q : ℕ) → q < a.statements → at (marks_held a) q ≡ mark_of (contains a.present q) (contains a.absent q)
unfolding marks_held
held_below a q l = get_or-map-range_with_len (λ k. mark_of (contains a.present k) (contains a.absent k)) 0 a.statements q q Open l (zero-add q)

pub held_past : (a : Inside) (q : ℕ) → a.statements ≤ q → at (marks_held a) q ≡ Open
held_past a q l = get_or_past (marks_held a) q Open (subst (λ n. n ≤ q) (sym (length_held a)) l)

pub held_at : (a : Inside) → IsApart a → (q : ℕ) → at (marks_held a) q ≡ mark_of (contains a.present q) (contains a.absent q)
held_at a h q =
    ⊎_elim
    (λ l. held_below a q l)
    (λ l. held_past a q l ∙ ap (λ b. mark_of b false) (sym (h.present q l)) ∙ ap (λ c. mark_of (contains a.present q) c) (sym (h.absent q l)))
    (cases_lt q a.statements)

pub in_of : (b c : Bool) → is_in (mark_of b c) ≡ b
in_of true c = refl
in_of false true = refl
in_of false false = refl

pub out_of : (b c : Bool) → (b ≡ true → c ≡ false) → is_out (mark_of b c) ≡ c
out_of true c h = sym (h refl)
out_of false true h = refl
out_of false false h = refl

-- a row of a test of the marks, which no open mark passes
row_at : (f : Mark → Bool) (m : List Mark) (q : ℕ) → f Open ≡ false → has (map f m) q ≡ f (at m q)
row_at f m q e =
    ⊎_elim
    (λ l. get_or-map f m q Open false l)
    (λ l. get_or_past (map f m) q false (subst (λ n. n ≤ q) (sym (length-map m f)) l) ∙ sym e ∙ ap f (sym (get_or_past m q Open l)))
    (cases_lt q (length m))

pub present_row : (a : Inside) → IsApart a → (q : ℕ) → has (map is_in (marks_held a)) q ≡ contains a.present q
present_row a h q = row_at is_in (marks_held a) q refl ∙ ap is_in (held_at a h q) ∙ in_of _ _

pub absent_row : (a : Inside) → IsApart a → (q : ℕ) → has (map is_out (marks_held a)) q ≡ contains a.absent q
absent_row a h q = row_at is_out (marks_held a) q refl ∙ ap is_out (held_at a h q) ∙ out_of _ _ (h.apart q)

-- the fields with these marks
abbrev pub fields : List Mark → Inside
fields m = record { present = record { digits = mask_l (map is_in m) }; absent = record { digits = mask_l (map is_out m) }; statements = length m }

-- the marks give the fields back
pub fields_marks_held : (a : Inside) → IsApart a → fields (marks_held a) ≡ a
fields_marks_held a h =
    let fields_with : ℕ → ℕ → ℕ → Inside = λ p o n. record { present = record { digits = p }; absent = record { digits = o }; statements = n } in
    let m : List Mark = marks_held a in
    ap (λ p. fields_with p (mask_l (map is_out m)) (length m)) (digits_of_row a.present (map is_in m) (present_row a h))
    ∙ ap (λ o. fields_with a.present.digits o (length m)) (digits_of_row a.absent (map is_out m) (absent_row a h))
    ∙ ap (λ n. fields_with a.present.digits a.absent.digits n) (length_held a)
