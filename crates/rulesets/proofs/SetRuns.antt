-- The statements of a run, from its last place to its first.
use Rattle.std.proofs.Common.{◌≡◌, ℕ, ◌-◌, ◌<◌, ◌≤◌, Bool, true, false, ◌&&◌, ◌||◌, ◌==◌, nat_lt, List, ◌∷◌, length, get_or, sym, refl, ap, ◌∙◌, ⊎_elim}
use Rattle.std.proofs.lemmas.Bool.{cases_eq, eq-eqb, lt-ltb, ne_eqb}
use Rattle.std.specs.List.{list_any}
use Rattle.table.proofs.Tails.{tail, tail_more}

-- what a set with one statement more has more is that one
pub just_one : (q p : ℕ) → p < 128 → (q == p && nat_lt q 128) ≡ (p == q)
just_one q p l =
    ⊎_elim
    (λ (e : q ≡ p). rw (e, eq-eqb p p refl, lt-ltb p 128 l) refl)
    (λ d. rw (ne_eqb q p d, ne_eqb p q (λ e. d (sym e))) refl)
    (cases_eq q p)

last_first : (b old one : Bool) → ((b || old) || one) ≡ (b || (one || old))
last_first true old one = refl
last_first false true true = refl
last_first false true false = refl
last_first false false true = refl
last_first false false false = refl

-- whether a statement is in the set once the element before place k is: it was in before the run, or an element from that
-- place on brings it
pub any_more : {X : Type 0} (f : X → Bool) (all : List X) (end k : ℕ) (d : X) → 1 ≤ k → k ≤ end → end ≤ length all → (x : X) → x ≡ get_or all (k - 1) d → (before old new : Bool) → old ≡ (before || list_any f (tail all end k)) → new ≡ (old || f x) → new ≡ (before || list_any f (tail all end (k - 1)))
any_more f all end k d p l i x here before old new h e =
    let next : tail all end (k - 1) ≡ x ∷ tail all end k = tail_more all end k d p l i ∙ ap (λ a. a ∷ tail all end k) (sym here) in
    e ∙ ap (λ b. b || f x) h ∙ last_first before _ (f x) ∙ ap (λ ys. before || list_any f ys) (sym next)
