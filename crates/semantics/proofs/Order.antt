-- The order of rows is strict, and total on rows of one length.
use Rattle.std.proofs.Common.{◌≡◌, ℕ, zero, suc, ◌<◌, ◌≤◌, Bool, true, false, ◌⊎◌, List, [], ◌∷◌, length, sym, refl, ap, ◌∙◌, inl, inr, arith}
use Rattle.semantics.specs.Rows.{Precedes, has}
use Rattle.semantics.specs.Theorems.{Order}
use Rattle.std.proofs.lemmas.Bool.{both_ways, cases_lt, cases_eq}

-- the earlier of the two first differences is one of a and c
precedes_trans : (a b c : List Bool) → Precedes a b → Precedes b c → Precedes a c
precedes_trans a b c p q = go (cases_lt p.at q.at) (cases_eq p.at q.at)
  where
    same_below : (n : ℕ) → ((k : ℕ) → k < n → k < p.at) → ((k : ℕ) → k < n → k < q.at) → (k : ℕ) → k < n → has a k ≡ has c k
    same_below n x y k l = p.same k (x k l) ∙ q.same k (y k l)

    go : (p.at < q.at) ⊎ (q.at ≤ p.at) → (p.at ≡ q.at) ⊎ (p.at ≡ q.at → ⊥) → Precedes a c
    go (inl l) e = record { at = p.at; same = same_below p.at (λ k h. h) (λ k h. omega arith); first = p.first; second = sym (q.same p.at l) ∙ p.second }
    go (inr l) (inl e) = absurd (both_ways (has b p.at) p.second (ap (has b) e ∙ q.first))
    go (inr l) (inr n) = record { at = q.at; same = same_below q.at (λ k h. omega arith) (λ k h. h); first = p.same q.at (omega arith) ∙ q.first; second = q.second }

-- one more place in front
pub later : (x : Bool) (a b : List Bool) → Precedes a b → Precedes (x ∷ a) (x ∷ b)
later x a b p = record { at = suc p.at; same = same; first = p.first; second = p.second }
  where
    same : (k : ℕ) → k < suc p.at → has (x ∷ a) k ≡ has (x ∷ b) k
    same zero l = refl
    same (suc k) l = p.same k (omega arith)

pub at_once : (a b : List Bool) → Precedes (true ∷ a) (false ∷ b)
at_once a b = record { at = 0; same = λ k l. absurd (omega arith); first = refl; second = refl }

in_front : (x : Bool) (a b : List Bool) → (a ≡ b) ⊎ (Precedes a b ⊎ Precedes b a) → ((x ∷ a) ≡ (x ∷ b)) ⊎ (Precedes (x ∷ a) (x ∷ b) ⊎ Precedes (x ∷ b) (x ∷ a))
in_front x a b (inl e) = inl (ap (λ s. x ∷ s) e)
in_front x a b (inr (inl p)) = inr (inl (later x a b p))
in_front x a b (inr (inr p)) = inr (inr (later x b a p))

compared : (a b : List Bool) → length a ≡ length b → (a ≡ b) ⊎ (Precedes a b ⊎ Precedes b a)
compared [] [] l = inl refl
compared [] (y ∷ b) l = absurd (omega arith)
compared (x ∷ a) [] l = absurd (omega arith)
compared (true ∷ a) (true ∷ b) l = in_front true a b (compared a b (omega arith))
compared (true ∷ a) (false ∷ b) l = inr (inl (at_once a b))
compared (false ∷ a) (true ∷ b) l = inr (inr (at_once b a))
compared (false ∷ a) (false ∷ b) l = in_front false a b (compared a b (omega arith))

pub order : Order
order = record {
  irreflexive = λ a p. both_ways (has a p.at) p.second p.first;
  transitive = precedes_trans;
  total = compared;
}
