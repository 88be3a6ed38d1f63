-- What can be picked from a bag.
use Rattle.std.proofs.Common.{◌≤◌, List, [], ◌∷◌, length, ℤ, sym, refl, ap, subst, inl, inr, arith}
use Rattle.family.specs.Bags.{Picked}
use Rattle.semantics.specs.Lists.{Among}

pub picked_none : (o : List ℤ) → Picked [] o
picked_none [] = refl
picked_none (w ∷ ws) = inl (picked_none ws)

pub picked_all : (o : List ℤ) → Picked o o
picked_all [] = refl
picked_all (w ∷ ws) = inr (ws, refl, picked_all ws)

pub picked_one : (o : List ℤ) (x : ℤ) → Among x o → Picked (x ∷ []) o
picked_one [] x m = absurd m
picked_one (w ∷ ws) x (inl e) = inr ([], ap (λ y. y ∷ []) (sym e), picked_none ws)
picked_one (w ∷ ws) x (inr m) = inl (picked_one ws x m)

pub picked_among : (u o : List ℤ) (x : ℤ) → Picked u o → Among x u → Among x o
picked_among u [] x e m = subst (Among x) e m
picked_among u (w ∷ ws) x (inl p) m = inr (picked_among u ws x p m)
picked_among u (w ∷ ws) x (inr (v, e, p)) m = elim (subst (Among x) e m) [ inl i ↦ inl i | inr i ↦ inr (picked_among v ws x p i) ]

pub picked_length : (u o : List ℤ) → Picked u o → length u ≤ length o
picked_length u [] e = omega (arith, ap length e)
picked_length u (w ∷ ws) (inl p) = omega (arith, picked_length u ws p)
picked_length u (w ∷ ws) (inr (v, e, p)) = omega (arith, picked_length v ws p, ap length e)
