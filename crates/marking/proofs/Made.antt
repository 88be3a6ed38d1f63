-- The marks of a marking that is made of sets: of nothing, of one more mark, of some marks alone, of two markings.
use Rattle.std.proofs.Common.{◌≡◌, ℕ, ◌<◌, ◌≤◌, min, Bool, true, false, if◌then◌else◌, not, ◌&&◌, ◌||◌, ◌==◌, nat_lt, List, length, set, replicate, sym, refl, ap, subst, ◌∙◌, ⊎_elim, arith}
use Rattle.marking.proofs.Held.{long_held, mark_held}
use Rattle.marking.specs.Fields.{IsApart, held_below, held_past, in_of, length_held, mark_of, marks_held}
use Rattle.marking.specs.Marks.{first_mark, is_out}
use Rattle.marking.specs.Sets.{contains}
use Rattle.marking.specs.declared.marking.Marking.TheInside.{Inside}
use Rattle.marking.specs.declared.set.Set.{Set}
use Rattle.semantics.specs.FullMarkings.{is_in}
use Rattle.semantics.specs.Markings.{at}
use Rattle.semantics.specs.declared.Mark.{Mark}
use Rattle.semantics.specs.declared.Mark.TheVariants.{Open, In, Out}
use Rattle.std.proofs.lemmas.Bool.{cases_eq, cases_lt, eq-eqb, lt-ltb, ne_eqb}
use Rattle.std.proofs.lemmas.List.{ext_get_or, get_or-replicate, get_or-set_other, get_or-set_same, length-replicate, length-set, set_past}

-- with no statement in or out every statement is open
pub all_open_held : (p o : Set) (n size : ℕ) → ((q : ℕ) → contains p q ≡ false) → ((q : ℕ) → contains o q ≡ false) → n ≡ size → marks_held (record { present = p; absent = o; statements = n }) ≡ replicate size Open
all_open_held p o n size i j e = ext_get_or Open _ _ (length_held _ ∙ e ∙ sym (length-replicate size Open)) each
  where
    each : (k : ℕ) → k < length (marks_held (record { present = p; absent = o; statements = n })) → at (marks_held (record { present = p; absent = o; statements = n })) k ≡ at (replicate size Open) k
    each k l =
        let there : k < n = subst (λ x. k < x) (length_held _) l in
        held_below _ k there ∙ rw (i k, j k) (sym (get_or-replicate size k Open Open (subst (λ x. k < x) e there)))

-- one mark more
in_and_out : (v : Mark) → mark_of (is_in v) (is_out v) ≡ v
in_and_out Open = refl
in_and_out In = refl
in_and_out Out = refl

pub set_held : (a : Inside) (m : List Mark) (q : ℕ) (v : Mark) (p o : Set) → IsApart a → marks_held a ≡ m → q < a.statements → ((k : ℕ) → contains p k ≡ (if k == q && nat_lt k 128 then is_in v else contains a.present k)) → ((k : ℕ) → contains o k ≡ (if k == q && nat_lt k 128 then is_out v else contains a.absent k)) → marks_held (record { present = p; absent = o; statements = a.statements }) ≡ set m q v
set_held a m q v p o h e l i j = ext_get_or Open _ _ (length_held b ∙ long_held a m e ∙ sym (length-set m q v)) each
  where
    b : Inside
    b = record { present = p; absent = o; statements = a.statements }

    each : (k : ℕ) → k < length (marks_held b) → at (marks_held b) k ≡ at (set m q v) k
    each k t =
        let there : k < a.statements = subst (λ x. k < x) (length_held b) t in
        let few : k < 128 = omega (arith, h.few) in
        held_below b k there
        ∙ ⊎_elim
        (λ (n : k ≡ q). rw (i k, j k, lt-ltb k 128 few, eq-eqb k q n) (in_and_out v ∙ sym (rw n (get_or-set_same m q v Open (subst (λ x. q < x) (long_held a m e) l)))))
        (λ n. rw (i k, j k, ne_eqb k q n) (sym (mark_held a m h e k) ∙ sym (get_or-set_other m q k v Open n)))
        (cases_eq k q)

-- no mark past the last is set
pub past_held : (a : Inside) (m : List Mark) (q : ℕ) (v : Mark) → marks_held a ≡ m → a.statements ≤ q → m ≡ set m q v
past_held a m q v e l = sym (set_past m q v (subst (λ x. x ≤ q) (long_held a m e) l))

-- the marks of some statements alone
cut : (b c s : Bool) → mark_of (b && s) (c && s) ≡ (if s then mark_of b c else Open)
cut true true true = refl
cut true true false = refl
cut true false true = refl
cut true false false = refl
cut false true true = refl
cut false true false = refl
cut false false true = refl
cut false false false = refl

none_kept : (s : Bool) → Open ≡ (if s then Open else Open)
none_kept true = refl
none_kept false = refl

pub within_held : (a : Inside) (m : List Mark) (s p o : Set) → IsApart a → marks_held a ≡ m → ((q : ℕ) → contains p q ≡ (contains a.present q && contains s q)) → ((q : ℕ) → contains o q ≡ (contains a.absent q && contains s q)) → (q : ℕ) → at (marks_held (record { present = p; absent = o; statements = a.statements })) q ≡ (if contains s q then at m q else Open)
within_held a m s p o h e i j q =
    ⊎_elim
    (λ l. held_below b q l ∙ rw (i q, j q) (cut _ _ _) ∙ ap (λ v. if contains s q then v else Open) (sym (mark_held a m h e q)))
    (λ l. held_past b q l ∙ none_kept (contains s q) ∙ ap (λ v. if contains s q then v else Open) (sym (held_past a q l) ∙ ap (λ x. at x q) e))
    (cases_lt q a.statements)
  where
    b : Inside
    b = record { present = p; absent = o; statements = a.statements }

pub same_long : (a : Inside) (m : List Mark) (p o : Set) → marks_held a ≡ m → length (marks_held (record { present = p; absent = o; statements = a.statements })) ≡ length m
same_long a m p o e = length_held _ ∙ long_held a m e

-- the marks of two markings: of two marks of one statement the first
first_of : (b c d f : Bool) → mark_of (b || ((d && not c) && (true && true))) (c || ((f && not b) && (true && true))) ≡ first_mark (mark_of b c) (mark_of d f)
first_of true c d f = refl
first_of false true true f = refl
first_of false true false f = refl
first_of false false true f = refl
first_of false false false true = refl
first_of false false false false = refl

pub joined_held : (a b : Inside) (m n : List Mark) (p o : Set) → IsApart a → IsApart b → marks_held a ≡ m → marks_held b ≡ n → ((q : ℕ) → contains p q ≡ (contains a.present q || ((contains b.present q && not (contains a.absent q)) && (nat_lt q a.statements && nat_lt q 128)))) → ((q : ℕ) → contains o q ≡ (contains a.absent q || ((contains b.absent q && not (contains a.present q)) && (nat_lt q a.statements && nat_lt q 128)))) → (q : ℕ) → q < length m → at (marks_held (record { present = p; absent = o; statements = a.statements })) q ≡ first_mark (at m q) (at n q)
joined_held a b m n p o h k e f i j q l =
    let there : q < a.statements = subst (λ x. q < x) (sym (long_held a m e)) l in
    let few : q < 128 = omega (arith, h.few) in
    held_below _ q there
    ∙ rw (i q, j q, lt-ltb q a.statements there, lt-ltb q 128 few, mark_held a m h e q, mark_held b n k f q) (first_of _ _ _ _)

-- of two sets with nothing in common, those below a size
and_all : (b : Bool) (q size n : ℕ) → n ≡ min size 128 → q < n → (b && (nat_lt q size && nat_lt q 128)) ≡ b
and_all true q size n e l = rw (lt-ltb q size (omega arith), lt-ltb q 128 (omega arith)) refl
and_all false q size n e l = refl

pub in_as : (a : Inside) (i : Set) (size : ℕ) → a.statements ≡ min size 128 → ((q : ℕ) → contains a.present q ≡ (contains i q && (nat_lt q size && nat_lt q 128))) → (q : ℕ) → q < length (marks_held a) → is_in (at (marks_held a) q) ≡ contains i q
in_as a i size e cut q l =
    let there : q < a.statements = subst (λ x. q < x) (length_held a) l in
    ap is_in (held_below a q there) ∙ in_of _ _ ∙ cut q ∙ and_all (contains i q) q size a.statements e there

out_besides : (b c : Bool) → is_out (mark_of b c) ≡ (c && not b)
out_besides true true = refl
out_besides true false = refl
out_besides false true = refl
out_besides false false = refl

pub out_as : (a : Inside) (o : Set) (size : ℕ) → a.statements ≡ min size 128 → ((q : ℕ) → (contains a.absent q && not (contains a.present q)) ≡ (contains o q && (nat_lt q size && nat_lt q 128))) → (q : ℕ) → q < length (marks_held a) → is_out (at (marks_held a) q) ≡ contains o q
out_as a o size e cut q l =
    let there : q < a.statements = subst (λ x. q < x) (length_held a) l in
    ap is_out (held_below a q there) ∙ out_besides _ _ ∙ cut q ∙ and_all (contains o q) q size a.statements e there
