-- That house and bench are families.
use Rattle.std.proofs.Common.{◌≡◌, ℕ, zero, suc, ◌*◌, ◌%◌, ◌<◌, ◌≤◌, Bool, true, false, cond, ◌⊎◌, List, [], ◌∷◌, length, get_or, set, ℤ, pos, ◌+ℤ◌, neg_ℤ, ◌≤ℤ◌, Some, None, Option, sym, refl, ap, ◌∙◌, subst, ap₂, inl, inr, ⊎_elim, arith}
use lib.Signed.{le_z}
use Rattle.std.specs.List.Sorted.{IsPermutation}
use Rattle.std.specs.List.{swap}
use Rattle.std.proofs.lemmas.Int.{ints}
use Rattle.std.proofs.lemmas.List.Sorted.{IsPermutation-keeps, length_permutation}
use Rattle.semantics.specs.Lists.{Among}
use Rattle.semantics.specs.Families.{Weight, Weighed, Moderate, Lawful, total, lesser, greater, least, greatest, less, house, bench}
use Rattle.semantics.specs.Theorems.{TwoFamilies}

-- What is made by adding the weights of a bag one by one.
abbrev gathered : {Y : Type 0} → (ℤ → Y → Y) → Y → List ℤ → Y
gathered add none [] = none
gathered add none (w ∷ ws) = add w (gathered add none ws)

-- Where any two weights may be added in either order, the order of the bag does not matter.
module _ {Y : Type 0} (add : ℤ → Y → Y) (none : Y) (either : (v w : ℤ) (y : Y) → add v (add w y) ≡ add w (add v y)) where
  abbrev made : List ℤ → Y
  made = gathered add none

  -- a weight in front changes places with one behind it
  front_exchanged : (w : ℤ) (ws : List ℤ) (i : ℕ) (d : ℤ) → i < length ws → add (get_or ws i d) (made (set ws i w)) ≡ add w (made ws)
  front_exchanged w [] i d l = absurd (omega arith)
  front_exchanged w (v ∷ ws) zero d l = either v w (made ws)
  front_exchanged w (v ∷ ws) (suc i) d l =
      either (get_or ws i d) v (made (set ws i w)) ∙ ap (add v) (front_exchanged w ws i d (omega arith)) ∙ either v w (made ws)

  two_exchanged : (ws : List ℤ) (i j : ℕ) (d : ℤ) → i < length ws → j < length ws → made (set (set ws i (get_or ws j d)) j (get_or ws i d)) ≡ made ws
  two_exchanged [] i j d k l = absurd (omega arith)
  two_exchanged (w ∷ ws) zero zero d k l = refl
  two_exchanged (w ∷ ws) zero (suc j) d k l = front_exchanged w ws j d (omega arith)
  two_exchanged (w ∷ ws) (suc i) zero d k l = front_exchanged w ws i d (omega arith)
  two_exchanged (w ∷ ws) (suc i) (suc j) d k l = ap (add w) (two_exchanged ws i j d (omega arith) (omega arith))

  exchange_keeps : (ws : List ℤ) (i j : ℕ) → i < length ws → j < length ws → made (swap ws i j) ≡ made ws
  exchange_keeps [] i j k l = refl
  exchange_keeps (w ∷ ws) i j k l = two_exchanged (w ∷ ws) i j w k l

  gathered_shuffled : (v w : List ℤ) → IsPermutation v w → made w ≡ made v
  gathered_shuffled v w = IsPermutation-keeps v (λ ws. made ws ≡ made v) refl (λ ws i j k l e. exchange_keeps ws i j k l ∙ e) w

lesser_either : (v w : ℤ) (o : Option ℤ) → lesser v (Some (lesser w o)) ≡ lesser w (Some (lesser v o))
lesser_either v w None = grind (arith, ints)
lesser_either v w (Some u) = grind (arith, ints)

greater_either : (v w : ℤ) (o : Option ℤ) → greater v (Some (greater w o)) ≡ greater w (Some (greater v o))
greater_either v w None = grind (arith, ints)
greater_either v w (Some u) = grind (arith, ints)

total_shuffled : (v w : List ℤ) → IsPermutation v w → total w ≡ total v
total_shuffled = gathered_shuffled ◌+ℤ◌ (pos 0) (λ v w z. omega (arith, ints))

least_shuffled : (v w : List ℤ) → IsPermutation v w → least w ≡ least v
least_shuffled = gathered_shuffled (λ w o. Some (lesser w o)) None (λ v w o. ap Some (lesser_either v w o))

greatest_shuffled : (v w : List ℤ) → IsPermutation v w → greatest w ≡ greatest v
greatest_shuffled = gathered_shuffled (λ w o. Some (greater w o)) None (λ v w o. ap Some (greater_either v w o))

house_unordered : (k : ℕ) (v w : List ℤ) → IsPermutation v w → house k w ≡ house k v
house_unordered zero v w s = ap (λ n. Some (pos n)) (length_permutation v w s)
house_unordered (suc zero) v w s = ap Some (total_shuffled v w s)
house_unordered (suc (suc zero)) v w s = least_shuffled v w s
house_unordered (suc (suc (suc zero))) v w s = greatest_shuffled v w s
house_unordered (suc (suc (suc (suc k)))) v w s = refl

house_lacking : (k : ℕ) (v : List ℤ) → 4 ≤ k → house k v ≡ None
house_lacking zero v h = absurd (omega arith)
house_lacking (suc zero) v h = absurd (omega arith)
house_lacking (suc (suc zero)) v h = absurd (omega arith)
house_lacking (suc (suc (suc zero))) v h = absurd (omega arith)
house_lacking (suc (suc (suc (suc k)))) v h = refl

bench_unordered : (k : ℕ) (v w : List ℤ) → IsPermutation v w → bench k w ≡ bench k v
bench_unordered zero v w s = ap₂ less (greatest_shuffled v w s) (least_shuffled v w s)
bench_unordered (suc zero) v w s = ap (λ n. Some (pos (n % 2))) (length_permutation v w s)
bench_unordered (suc (suc k)) v w s = refl

bench_lacking : (k : ℕ) (v : List ℤ) → 2 ≤ k → bench k v ≡ None
bench_lacking zero v h = absurd (omega arith)
bench_lacking (suc zero) v h = absurd (omega arith)
bench_lacking (suc (suc k)) v h = refl

-- Numbers are within their limit: a sum by the number of weights, an extreme since it is one of the weights.
total_within : (v : List ℤ) → ((w : ℤ) → Among w v → Weight w) → (neg_ℤ (pos (1000000 * length v)) ≤ℤ total v) × (total v ≤ℤ pos (1000000 * length v))
total_within [] h = (omega (arith, ints), omega (arith, ints))
total_within (w ∷ ws) h =
    let r = total_within ws (λ x i. h x (inr i)) in
    let s = h w (inl refl) in
    (omega (arith, ints, r.0, s.0), omega (arith, ints, r.1, s.1))

pub same_some : {a b : ℤ} → ◌≡◌ {A = Option ℤ} (Some a) (Some b) → a ≡ b
same_some e = cc

pub none_some : {a : ℤ} → ◌≡◌ {A = Option ℤ} None (Some a) → ⊥
none_some e = let z : ◌≡◌ {A = ℕ} 0 1 = cc in omega arith

pub cond_either : (b : Bool) (w v : ℤ) → (cond b w v ≡ w) ⊎ (cond b w v ≡ v)
cond_either true w v = inl refl
cond_either false w v = inr refl

-- the best weight of a bag, made by taking the better one of two, in an order
pub record Best (better : ℤ → Option ℤ → ℤ) (best : List ℤ → Option ℤ) (Before : ℤ → ℤ → Type 0) : Type 0 where
  pub none : best [] ≡ None
  pub next : (w : ℤ) (ws : List ℤ) → best (w ∷ ws) ≡ Some (better w (best ws))
  pub alone : (w : ℤ) → better w None ≡ w
  pub either : (w v : ℤ) → (better w (Some v) ≡ w) ⊎ (better w (Some v) ≡ v)
  pub first : (w v : ℤ) → Before (better w (Some v)) w × Before (better w (Some v)) v
  pub level : (w : ℤ) → Before w w
  pub through : (u v w : ℤ) → Before u v → Before v w → Before u w
  pub same : (v w : ℤ) → Before v w → Before w v → v ≡ w

pub least_best : Best lesser least ◌≤ℤ◌
least_best = record {
  none = refl;
  next = λ w ws. refl;
  alone = λ w. refl;
  either = λ w v. cond_either (le_z w v) w v;
  first = λ w v. (grind (arith, ints), grind (arith, ints));
  level = λ w. omega (arith, ints);
  through = λ u v w p q. omega (arith, ints);
  same = λ v w p q. omega (arith, ints);
}

pub greatest_best : Best greater greatest (λ v w. w ≤ℤ v)
greatest_best = record {
  none = refl;
  next = λ w ws. refl;
  alone = λ w. refl;
  either = λ w v. cond_either (le_z v w) w v;
  first = λ w v. (grind (arith, ints), grind (arith, ints));
  level = λ w. omega (arith, ints);
  through = λ u v w p q. omega (arith, ints);
  same = λ v w p q. omega (arith, ints);
}

module _ {better : ℤ → Option ℤ → ℤ} {best : List ℤ → Option ℤ} {Before : ℤ → ℤ → Type 0} (b : Best better best Before) where
  step_among : (w z : ℤ) (ws : List ℤ) → ((v : ℤ) → best ws ≡ Some v → Among v ws) → (o : Option ℤ) → best ws ≡ o → better w (best ws) ≡ z → Among z (w ∷ ws)
  step_among w z ws ih None f g = inl (sym (b.alone w) ∙ ap (better w) (sym f) ∙ g)
  step_among w z ws ih (Some v) f g =
      let k : better w (Some v) ≡ z = ap (better w) (sym f) ∙ g in
      ⊎_elim (λ h. inl (sym h ∙ k)) (λ h. inr (subst (λ x. Among x ws) (sym h ∙ k) (ih v f))) (b.either w v)

  -- it is one of the weights
  pub best_among : (v : List ℤ) (z : ℤ) → best v ≡ Some z → Among z v
  best_among [] z e = absurd (none_some (sym b.none ∙ e))
  best_among (w ∷ ws) z e = step_among w z ws (best_among ws) (best ws) refl (same_some (sym (b.next w ws) ∙ e))

  step_before : (w x : ℤ) (ws : List ℤ) → ((v : ℤ) → best ws ≡ Some v → Among x ws → Before v x) → (o : Option ℤ) → best ws ≡ o → Among x (w ∷ ws) → Before (better w (best ws)) x
  step_before w x ws ih None f (inl e) = subst (λ y. Before y x) (sym (b.alone w) ∙ ap (better w) (sym f)) (subst (Before w) e (b.level w))
  step_before w x [] ih None f (inr m) = absurd m
  step_before w x (y ∷ ys) ih None f (inr m) = absurd (none_some (sym f ∙ b.next y ys))
  step_before w x ws ih (Some v) f m =
      subst (λ o. Before (better w o) x) (sym f)
      (⊎_elim (λ e. subst (Before (better w (Some v))) e (b.first w v).0) (λ i. b.through _ v x (b.first w v).1 (ih v f i)) m)

  -- it comes before all the weights
  pub best_before : (v : List ℤ) (z x : ℤ) → best v ≡ Some z → Among x v → Before z x
  best_before [] z x e m = absurd m
  best_before (w ∷ ws) z x e m =
      subst (λ y. Before y x) (same_some (sym (b.next w ws) ∙ e)) (step_before w x ws (λ v. best_before ws v x) (best ws) refl m)

  -- a weight that comes before all of them is the best
  pub best_is : (v : List ℤ) (z : ℤ) → Among z v → ((x : ℤ) → Among x v → Before z x) → best v ≡ Some z
  best_is [] z m h = absurd m
  best_is (w ∷ ws) z m h =
      let e = b.next w ws in
      e ∙ ap Some (b.same _ z (best_before (w ∷ ws) _ z e m) (h _ (best_among (w ∷ ws) _ e)))

moderate_weight : (z : ℤ) → Weight z → Moderate z
moderate_weight z h = (omega (arith, ints, h.0), omega (arith, ints, h.1))

house_moderate : (k : ℕ) (v : List ℤ) (z : ℤ) → Weighed v → house k v ≡ Some z → Moderate z
house_moderate zero v z h e = let f = h.few in subst Moderate (same_some e) (omega (arith, ints), omega (arith, ints))
house_moderate (suc zero) v z h e =
    let f = h.few in
    let r = total_within v h.small in
    subst Moderate (same_some e) (omega (arith, ints, r.0), omega (arith, ints, r.1))
house_moderate (suc (suc zero)) v z h e = moderate_weight z (h.small z (best_among least_best v z e))
house_moderate (suc (suc (suc zero))) v z h e = moderate_weight z (h.small z (best_among greatest_best v z e))
house_moderate (suc (suc (suc (suc k)))) v z h e = absurd (none_some e)

spread_moderate : (v : List ℤ) (z : ℤ) → Weighed v → (a b : Option ℤ) → greatest v ≡ a → least v ≡ b → less a b ≡ Some z → Moderate z
spread_moderate v z h None b p q e = absurd (none_some e)
spread_moderate v z h (Some a) None p q e = absurd (none_some e)
spread_moderate v z h (Some a) (Some b) p q e =
    let x = h.small a (best_among greatest_best v a p) in
    let y = h.small b (best_among least_best v b q) in
    subst Moderate (same_some e) (omega (arith, ints, x.0, y.1), omega (arith, ints, x.1, y.0))

bench_moderate : (k : ℕ) (v : List ℤ) (z : ℤ) → Weighed v → bench k v ≡ Some z → Moderate z
bench_moderate zero v z h e = spread_moderate v z h (greatest v) (least v) refl refl e
bench_moderate (suc zero) v z h e = subst Moderate (same_some e) (omega (arith, ints), omega (arith, ints))
bench_moderate (suc (suc k)) v z h e = absurd (none_some e)

pub two_families : TwoFamilies
two_families = record {
  house_family = record { few = omega arith; unordered = house_unordered; lacking = house_lacking };
  bench_family = record { few = omega arith; unordered = bench_unordered; lacking = bench_lacking };
}

-- And their numbers are within their limit.
pub house_lawful : Lawful 4 house
house_lawful = record { family = two_families.house_family; moderate = house_moderate }

pub bench_lawful : Lawful 2 bench
bench_lawful = record { family = two_families.bench_family; moderate = bench_moderate }
