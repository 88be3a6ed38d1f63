-- Narrowing step by step, by what nogoods show.
use Rattle.std.proofs.Common.{◌≡◌, ◌≢◌, ℕ, ◌<◌, Bool, true, false, not, List, length, set, refl, sym, ap, ◌∙◌, ⊎_elim, arith}
use Rattle.marking.proofs.Counting.{below_fewer, below_same}
use Rattle.marking.specs.Marks.{how_open}
use Rattle.search.proofs.Resolving.{agrees_with_one}
use Rattle.search.specs.Nogoods.{LacksOne, Narrows, Nogood}
use Rattle.semantics.proofs.Marks.{cases_mark, mark_adds, mark_keeps, open_unmarked, other_value}
use Rattle.semantics.specs.Markings.{at, marked, Below}
use Rattle.semantics.specs.Rows.{has}
use Rattle.semantics.specs.declared.Mark.{Mark}
use Rattle.semantics.specs.declared.Mark.TheVariants.{Open}
use Rattle.std.proofs.lemmas.List.{get_or-set_same, length-set}

-- a mark on an open statement leaves fewer open
pub mark_fewer : (m : List Mark) (q : ℕ) (x : Bool) → q < length m → at m q ≡ Open → how_open (set m q (marked x)) < how_open m
mark_fewer m q x l o =
    let longer = length-set m q (marked x) in
    let fewer = below_fewer m (set m q (marked x)) longer (mark_adds m q x o) in
    let differ : how_open (set m q (marked x)) ≡ how_open m → ⊥ = λ e.
    open_unmarked x (sym o ∙ sym (ap (λ k. at k q) (below_same m (set m q (marked x)) longer (mark_adds m q x o) e)) ∙ get_or-set_same m q (marked x) Open l)
    in
    omega (arith, fewer, differ)

-- the way a nogood has a statement that is not open in it
pub marked_way : (n : List Mark) (q : ℕ) → at n q ≢ Open → (x : Bool) × (at n q ≡ marked x)
marked_way n q d = ⊎_elim (λ o. absurd (d o)) (⊎_elim (λ i. (true, i)) (λ o. (false, o))) (cases_mark (at n q) true)

module _ (fits : List Bool → Type 0) where
  -- to mark nothing narrows
  pub narrows_same : (m : List Mark) → Narrows fits m m
  narrows_same m = record { long = refl; adds = λ q x e. e; keeps = λ s f a. a }

  pub narrows_on : (m n k : List Mark) → Narrows fits m n → Narrows fits n k → Narrows fits m k
  narrows_on m n k a b = record {
    long = b.long ∙ a.long;
    adds = λ q x e. b.adds q x (a.adds q x e);
    keeps = λ s f x. b.keeps s f (a.keeps s f x);
  }

  -- what is narrowed to a nogood is one
  pub narrows_back : (m n : List Mark) → Narrows fits m n → Nogood fits n → Nogood fits m
  narrows_back m n a g s f x = g s f (a.keeps s f x)

  -- where all marks of a nogood are met
  pub met_nogood : (m n : List Mark) → Below n m → Nogood fits n → Nogood fits m
  met_nogood m n b g s f a = g s f (λ q x e. a q x (b q x e))

-- where all marks of a nogood but one are met, and that statement is turned the other way
module _ (m n t : List Mark) (q : ℕ) (l : LacksOne m n q) (turned : (x : Bool) → at n q ≡ marked x → t ≡ set m q (marked (not x))) where
  pub turned_fewer : how_open t < how_open m
  turned_fewer = let w = marked_way n q l.here in rw (turned w.0 w.1) (mark_fewer m q (not w.0) l.inside l.open_there)

  pub turned_narrows : (fits : List Bool → Type 0) → Nogood fits n → Narrows fits m t
  turned_narrows fits g =
      let w = marked_way n q l.here in
      let e : t ≡ set m q (marked (not w.0)) = turned w.0 w.1 in
      record {
        long = rw e (length-set m q (marked (not w.0)));
        adds = rw e (mark_adds m q (not w.0) l.open_there);
        keeps = λ s f a. rw e (mark_keeps m q (not w.0) l.inside (λ r y. has s r ≡ y) a (other_value (has s q) w.0 (λ h. g s f (agrees_with_one m n q w.0 s w.1 l.others a h))));
      }
