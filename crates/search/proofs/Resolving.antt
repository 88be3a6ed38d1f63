-- What follows from two nogoods that have one statement contrary ways.
use Rattle.std.proofs.Common.{◌≡◌, ◌≢◌, ℕ, ◌<◌, Bool, true, false, not, ◌⊎◌, List, length, Option, Some, None, IfSome, set, refl, sym, ap, ◌∙◌, inl, inr, ⊎_elim}
use Rattle.marking.specs.Marks.{first_mark}
use Rattle.marking.specs.declared.marking.Marking.{Marking}
use Rattle.search.specs.Nogoods.{EitherAgrees}
use Rattle.semantics.proofs.Marks.{marked_inside, marked_once}
use Rattle.semantics.specs.Markings.{at, marked, Agrees, Below}
use Rattle.semantics.specs.Rows.{has}
use Rattle.semantics.specs.declared.Mark.{Mark}
use Rattle.semantics.specs.declared.Mark.TheVariants.{Open}
use Rattle.std.proofs.lemmas.Bool.{cases_eq}
use Rattle.std.proofs.lemmas.List.{get_or-set_other}

-- a row that has q as n has it, and agrees with the other marks of n, agrees with n
pub agrees_with_one : (m n : List Mark) (q : ℕ) (x : Bool) (s : List Bool) → at n q ≡ marked x
    → ((k : ℕ) (y : Bool) → k ≢ q → at n k ≡ marked y → at m k ≡ marked y)
    → Agrees m s → has s q ≡ x → Agrees n s
agrees_with_one m n q x s way others a h k y e =
    ⊎_elim
    (λ i. ap (has s) i ∙ h ∙ marked_once x y way (ap (at n) (sym i) ∙ e))
    (λ d. a k y (others k y d e))
    (cases_eq k q)

one_way : (b x : Bool) → (b ≡ x) ⊎ (b ≡ not x)
one_way true true = inl refl
one_way true false = inr refl
one_way false true = inr refl
one_way false false = inl refl

first_stays : (x : Bool) (w : Mark) → first_mark (marked x) w ≡ marked x
first_stays true w = refl
first_stays false w = refl

-- of two markings, the first one's marks are among the marks of both
pub first_below : (a b r : List Mark) → ((k : ℕ) → k < length a → at r k ≡ first_mark (at a k) (at b k)) → Below a r
first_below a b r joined k x e = joined k (marked_inside a k x e) ∙ ap (λ u. first_mark u (at b k)) e ∙ first_stays x (at b k)

without_kept : (n m r : List Mark) (q : ℕ) → m ≡ set n q Open → Below m r → (k : ℕ) (y : Bool) → k ≢ q → at n k ≡ marked y → at r k ≡ marked y
without_kept n m r q f below k y d e = below k y (ap (λ u. at u k) f ∙ get_or-set_other n q k Open Open d ∙ e)

pub resolved_either : (n b m c : List Mark) (q : ℕ) (v w : Mark) (r : Option Marking)
    → v ≡ at n q → w ≡ at b q → (x : Bool) × (v ≡ marked x) × (w ≡ marked (not x))
    → m ≡ set n q Open → c ≡ set b q Open
    → IfSome r (λ u. Below m u × Below c u)
    → IfSome r (EitherAgrees n b)
resolved_either n b m c q v w None i j way f g below = tt
resolved_either n b m c q v w (Some r) i j way f g below = λ s a.
    ⊎_elim
    (λ h. inl (agrees_with_one r n q way.0 s (sym i ∙ way.1) (without_kept n m r q f below.0) a h))
    (λ h. inr (agrees_with_one r b q (not way.0) s (sym j ∙ way.2) (without_kept b c r q g below.1) a h))
    (one_way (has s q) way.0)
