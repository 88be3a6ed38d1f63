-- The bags under a marking are, but for their order, the sure weights with some, none or all of the open ones.
use Rattle.std.proofs.Common.{◌≡◌, ℕ, Bool, true, false, cond, List, [], ◌∷◌, ◌++◌, ℤ, Option, sym, refl, ◌∙◌, inl, inr, arith}
use Rattle.family.specs.Bags.{Picked, Reached}
use Rattle.judging.specs.Weights.{if_in, if_open, open_weights, sure_weights}
use Rattle.semantics.proofs.Marks.{marked_once, open_unmarked}
use Rattle.semantics.specs.Families.{Values}
use Rattle.semantics.specs.Markings.{Allows, Attained, Bag, at, marked}
use Rattle.semantics.specs.Programs.{Aggregate}
use Rattle.semantics.specs.declared.Mark.{Mark}
use Rattle.semantics.specs.declared.Mark.TheVariants.{Open, In, Out}
use Rattle.semantics.specs.declared.Member.{Member}
use Rattle.std.proofs.lemmas.List.Sorted.{IsPermutation-cons, IsPermutation-refl, IsPermutation-swap, IsPermutation-trans}
use Rattle.std.proofs.lemmas.Bool.{false≢true, true≢false}
use Rattle.std.specs.List.Sorted.{IsPermutation}

-- a weight from the front into the middle
into : (w : ℤ) (s u : List ℤ) → IsPermutation (w ∷ (s ++ u)) (s ++ (w ∷ u))
into w [] u = IsPermutation-refl (w ∷ u)
into w (x ∷ s) u =
    IsPermutation-trans (w ∷ x ∷ (s ++ u)) (x ∷ w ∷ (s ++ u)) (x ∷ (s ++ (w ∷ u)))
    (IsPermutation-swap (w ∷ x ∷ (s ++ u)) (x ∷ w ∷ (s ++ u)) 0 1 (omega arith) (omega arith) refl)
    (IsPermutation-cons x (w ∷ (s ++ u)) (s ++ (w ∷ u)) (into w s u))

allows_marked : (x : Bool) → Allows (marked x) x
allows_marked x y e = marked_once x y refl e

-- one member more, with mark v: Rest are the bags of the others, s their sure and o their open weights
module _ (w : ℤ) (Rest : List ℤ → Type 0) (s o : List ℤ) where
  abbrev OneMore : Mark → List ℤ → Type 0
  OneMore v x = (b : Bool) × (y : List ℤ) × Allows v b × Rest y × (x ≡ cond b (w ∷ y) y)

  picked_step : ((u : List ℤ) → Picked u o → (x : List ℤ) × Rest x × IsPermutation x (s ++ u)) → (v : Mark) (u : List ℤ) → Picked u (if_open v w o) → (x : List ℤ) × OneMore v x × IsPermutation x (if_in v w s ++ u)
  picked_step ih Open u (inl h) = let r = ih u h in (r.0, (false, r.0, (λ x e. absurd (open_unmarked x e)), r.1, refl), r.2)
  picked_step ih Open u (inr (x, e, h)) =
      let r = ih x h in
      (w ∷ r.0, (true, r.0, (λ x e. absurd (open_unmarked x e)), r.1, refl), rw e (IsPermutation-trans _ _ _ (IsPermutation-cons w _ _ r.2) (into w s x)))
  picked_step ih In u h = let r = ih u h in (w ∷ r.0, (true, r.0, allows_marked true, r.1, refl), IsPermutation-cons w _ _ r.2)
  picked_step ih Out u h = let r = ih u h in (r.0, (false, r.0, allows_marked false, r.1, refl), r.2)

  bag_step : ((x : List ℤ) → Rest x → (u : List ℤ) × Picked u o × IsPermutation x (s ++ u)) → (v : Mark) (b : Bool) (y : List ℤ) → Allows v b → Rest y → (u : List ℤ) × Picked u (if_open v w o) × IsPermutation (cond b (w ∷ y) y) (if_in v w s ++ u)
  bag_step ih Open true y al h = let r = ih y h in (w ∷ r.0, inr (r.0, refl, r.1), IsPermutation-trans _ _ _ (IsPermutation-cons w _ _ r.2) (into w s r.0))
  bag_step ih Open false y al h = let r = ih y h in (r.0, inl r.1, r.2)
  bag_step ih In true y al h = let r = ih y h in (r.0, r.1, IsPermutation-cons w _ _ r.2)
  bag_step ih In false y al h = absurd (false≢true (al true refl))
  bag_step ih Out true y al h = absurd (true≢false (al false refl))
  bag_step ih Out false y al h = ih y h

bag_from_picked : (m : List Mark) (ms : List Member) (u : List ℤ) → Picked u (open_weights m ms) → (v : List ℤ) × Bag m ms v × IsPermutation v (sure_weights m ms ++ u)
bag_from_picked m [] u h = ([], refl, rw h (IsPermutation-refl []))
bag_from_picked m (a ∷ ms) u h = picked_step a.weight (Bag m ms) (sure_weights m ms) (open_weights m ms) (bag_from_picked m ms) (at m a.statement) u h

picked_from_bag : (m : List Mark) (ms : List Member) (v : List ℤ) → Bag m ms v → (u : List ℤ) × Picked u (open_weights m ms) × IsPermutation v (sure_weights m ms ++ u)
picked_from_bag m [] v e = ([], refl, rw e (IsPermutation-refl []))
picked_from_bag m (a ∷ ms) v (b, y, al, h, e) = rw e (bag_step a.weight (Bag m ms) (sure_weights m ms) (open_weights m ms) (picked_from_bag m ms) (at m a.statement) b y al h)

-- so they come to the same values
module _ (value : Values) (unordered : (k : ℕ) (v w : List ℤ) → IsPermutation v w → value k w ≡ value k v) (m : List Mark) (g : Aggregate) (r : Option ℤ) where
  pub attained : Reached (value g.kind) (sure_weights m g.members) (open_weights m g.members) r → Attained value m g r
  attained p = let q = bag_from_picked m g.members p.0 p.1 in (q.0, q.1, sym (unordered g.kind _ _ q.2) ∙ p.2)

  pub reached : Attained value m g r → Reached (value g.kind) (sure_weights m g.members) (open_weights m g.members) r
  reached p = let q = picked_from_bag m g.members p.0 p.1 in (q.0, q.1, unordered g.kind _ _ q.2 ∙ p.2)
