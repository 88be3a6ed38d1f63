-- What the two sets of a marking say of its marks.
use Rattle.std.proofs.Common.{◌≡◌, ℕ, Bool, true, false, not, ◌&&◌, ◌||◌, List, map, length, sym, refl, ap, ◌∙◌, arith}
use Rattle.marking.proofs.Digits.{as_many}
use Rattle.marking.specs.Fields.{IsApart, held_at, in_of, length_held, mark_of, marks_held, out_of, present_row}
use Rattle.marking.specs.Marks.{is_out}
use Rattle.marking.specs.Sets.{contains, row}
use Rattle.marking.specs.declared.marking.Marking.TheInside.{Inside}
use Rattle.semantics.specs.FullMarkings.{is_in, row_of}
use Rattle.semantics.specs.Markings.{Below, at, marked}
use Rattle.semantics.specs.Rows.{how_many}
use Rattle.semantics.specs.Tests.{is_kept}
use Rattle.semantics.specs.declared.Mark.{Mark}
use Rattle.semantics.specs.declared.Mark.TheVariants.{Open, In, Out}
use Rattle.std.proofs.lemmas.Bool.{true≢false}

pub long_held : (a : Inside) (m : List Mark) → marks_held a ≡ m → a.statements ≡ length m
long_held a m e = sym (length_held a) ∙ ap length e

pub mark_held : (a : Inside) (m : List Mark) → IsApart a → marks_held a ≡ m → (q : ℕ) → at m q ≡ mark_of (contains a.present q) (contains a.absent q)
mark_held a m h e q = ap (λ x. at x q) (sym e) ∙ held_at a h q

pub present_held : (a : Inside) (m : List Mark) → IsApart a → marks_held a ≡ m → (q : ℕ) → contains a.present q ≡ is_in (at m q)
present_held a m h e q = sym (ap is_in (mark_held a m h e q) ∙ in_of _ _)

pub absent_held : (a : Inside) (m : List Mark) → IsApart a → marks_held a ≡ m → (q : ℕ) → contains a.absent q ≡ is_out (at m q)
absent_held a m h e q = sym (ap is_out (mark_held a m h e q) ∙ out_of _ _ (h.apart q))

-- a set that has each statement that is in has as many
pub in_counted : (a : Inside) (m : List Mark) → IsApart a → marks_held a ≡ m → how_many (row a.present) ≡ how_many (row_of m)
in_counted a m h e = rw (← e) (as_many a.present (map is_in (marks_held a)) (λ q l. h.present q (omega (arith, h.few))) (present_row a h))

-- the mark of a statement by the set that has it
in_is : (v : Mark) → is_in v ≡ true → v ≡ In
in_is Open e = absurd (true≢false (sym e))
in_is In e = refl
in_is Out e = absurd (true≢false (sym e))

out_is : (v : Mark) → is_out v ≡ true → v ≡ Out
out_is Open e = absurd (true≢false (sym e))
out_is In e = absurd (true≢false (sym e))
out_is Out e = refl

neither_is : (v : Mark) → is_in v ≡ false → is_out v ≡ false → v ≡ Open
neither_is Open e f = refl
neither_is In e f = absurd (true≢false e)
neither_is Out e f = absurd (true≢false f)

pub mark_in : (a : Inside) (m : List Mark) → IsApart a → marks_held a ≡ m → (q : ℕ) → contains a.present q ≡ true → In ≡ at m q
mark_in a m h e q b = sym (in_is (at m q) (sym (present_held a m h e q) ∙ b))

pub mark_out : (a : Inside) (m : List Mark) → IsApart a → marks_held a ≡ m → (q : ℕ) → contains a.absent q ≡ true → Out ≡ at m q
mark_out a m h e q b = sym (out_is (at m q) (sym (absent_held a m h e q) ∙ b))

pub mark_open : (a : Inside) (m : List Mark) → IsApart a → marks_held a ≡ m → (q : ℕ) → contains a.present q ≡ false → contains a.absent q ≡ false → Open ≡ at m q
mark_open a m h e q b c = sym (neither_is (at m q) (sym (present_held a m h e q) ∙ b) (sym (absent_held a m h e q) ∙ c))

-- the marks that another marking has not
unkept : (v w : Mark) → ((is_in v && not (is_in w)) || (is_out v && not (is_out w))) ≡ not (is_kept v w)
unkept Open w = refl
unkept In Open = refl
unkept In In = refl
unkept In Out = refl
unkept Out Open = refl
unkept Out In = refl
unkept Out Out = refl

pub unmet_held : (a b : Inside) (m n : List Mark) → IsApart a → IsApart b → marks_held a ≡ m → marks_held b ≡ n → (q : ℕ) → ((contains a.present q && not (contains b.present q)) || (contains a.absent q && not (contains b.absent q))) ≡ not (is_kept (at m q) (at n q))
unmet_held a b m n h k e f q = rw (present_held a m h e q, present_held b n k f q, absent_held a m h e q, absent_held b n k f q) (unkept (at m q) (at n q))

-- every mark of m is a mark of n just where none is unmet
kept_from : (v w : Mark) → ((x : Bool) → v ≡ marked x → w ≡ marked x) → not (is_kept v w) ≡ false
kept_from Open w b = refl
kept_from In w b = ap (λ u. not (is_kept In u)) (b true refl)
kept_from Out w b = ap (λ u. not (is_kept Out u)) (b false refl)

pub below_kept : (m n : List Mark) (q : ℕ) → Below m n → not (is_kept (at m q) (at n q)) ≡ false
below_kept m n q b = kept_from (at m q) (at n q) (b q)

pub kept_marked : (v w : Mark) (x : Bool) → not (is_kept v w) ≡ false → v ≡ marked x → w ≡ marked x
kept_marked Open w true k e = absurd cc
kept_marked Open w false k e = absurd cc
kept_marked In In x k e = e
kept_marked Out Out x k e = e
kept_marked In Open x k e = absurd cc
kept_marked In Out x k e = absurd cc
kept_marked Out Open x k e = absurd cc
kept_marked Out In x k e = absurd cc
