-- Marks and the truth values that they allow.
use Rattle.std.proofs.Common.{◌≡◌, ℕ, ◌<◌, Bool, true, false, not, ◌⊎◌, List, length, set, sym, refl, ap, ◌∙◌, subst, inl, inr, ⊎_elim, arith}
use Rattle.std.proofs.lemmas.List.{ext_get_or, get_or_past, get_or-set_other, get_or-set_same}
use Rattle.std.proofs.lemmas.Bool.{cases_eq, cases_lt}
use Rattle.semantics.specs.declared.Mark.{Mark}
use Rattle.semantics.specs.declared.Mark.TheVariants.{Open, In, Out}
use Rattle.semantics.specs.FullMarkings.{is_in}
use Rattle.semantics.specs.Markings.{at, marked, Allows, Below}

pub open_unmarked : (x : Bool) → Open ≡ marked x → ⊥
open_unmarked true e = let z : ◌≡◌ {A = ℕ} 0 1 = cc in omega arith
open_unmarked false e = let z : ◌≡◌ {A = ℕ} 0 1 = cc in omega arith

pub marked_once : {v : Mark} (x y : Bool) → v ≡ marked x → v ≡ marked y → x ≡ y
marked_once true true e f = refl
marked_once true false e f = cc
marked_once false true e f = cc
marked_once false false e f = refl

pub not_itself : (x : Bool) → x ≡ not x → ⊥
not_itself true e = let z : ◌≡◌ {A = ℕ} 0 1 = cc in omega arith
not_itself false e = let z : ◌≡◌ {A = ℕ} 0 1 = cc in omega arith

-- no mark is both ways
pub both_marked : {v : Mark} {X : Type 0} (x : Bool) → v ≡ marked x → v ≡ marked (not x) → X
both_marked x e f = absurd (not_itself x (marked_once x (not x) e f))

pub other_value : (b x : Bool) → (b ≡ x → ⊥) → b ≡ not x
other_value true true n = absurd (n refl)
other_value true false n = refl
other_value false true n = refl
other_value false false n = absurd (n refl)

-- and one that is not the contrary
pub same_value : (b x : Bool) → (b ≡ not x → ⊥) → b ≡ x
same_value true true n = refl
same_value true false n = absurd (n refl)
same_value false true n = absurd (n refl)
same_value false false n = refl

pub cases_mark : (v : Mark) (x : Bool) → (v ≡ Open) ⊎ ((v ≡ marked x) ⊎ (v ≡ marked (not x)))
cases_mark Open x = inl refl
cases_mark In true = inr (inl refl)
cases_mark In false = inr (inr refl)
cases_mark Out true = inr (inr refl)
cases_mark Out false = inr (inl refl)

same_mark : (v w : Mark) → ((x : Bool) → v ≡ marked x → w ≡ marked x) → ((x : Bool) → w ≡ marked x → v ≡ marked x) → v ≡ w
same_mark Open Open f g = refl
same_mark Open In f g = g true refl
same_mark Open Out f g = g false refl
same_mark In w f g = sym (f true refl)
same_mark Out w f g = sym (f false refl)

-- each below the other: the same
pub same_marking : (m n : List Mark) → length m ≡ length n → Below m n → Below n m → m ≡ n
same_marking m n l b c = ext_get_or Open m n l (λ k _. same_mark (at m k) (at n k) (b k) (c k))

-- a mark allows what it says
pub allows_in : (v : Mark) → Allows v (is_in v)
allows_in v true e = ap is_in e
allows_in v false e = ap is_in e

-- what is marked is a statement
pub marked_inside : (m : List Mark) (q : ℕ) (x : Bool) → at m q ≡ marked x → q < length m
marked_inside m q x e = ⊎_elim (λ l. l) (λ l. absurd (open_unmarked x (sym (get_or_past m q Open l) ∙ e))) (cases_lt q (length m))

-- one mark more: what holds of every mark, and of the new one, holds of every mark then
pub mark_keeps : (m : List Mark) (q : ℕ) (x : Bool) → q < length m → (P : ℕ → Bool → Type 0) → ((r : ℕ) (y : Bool) → at m r ≡ marked y → P r y) → P q x → (r : ℕ) (y : Bool) → at (set m q (marked x)) r ≡ marked y → P r y
mark_keeps m q x l P h new r y e =
    ⊎_elim
    (λ i. rw i (subst (P q) (marked_once x y (get_or-set_same m q (marked x) Open l) (rw i at e)) new))
    (λ d. h r y (sym (get_or-set_other m q r (marked x) Open d) ∙ e))
    (cases_eq r q)

-- and an open statement's mark takes none away
pub mark_adds : (m : List Mark) (q : ℕ) (x : Bool) → at m q ≡ Open → Below m (set m q (marked x))
mark_adds m q x o r y e =
    ⊎_elim
    (λ i. absurd (open_unmarked y (sym o ∙ ap (at m) (sym i) ∙ e)))
    (λ d. get_or-set_other m q r (marked x) Open d ∙ e)
    (cases_eq r q)
