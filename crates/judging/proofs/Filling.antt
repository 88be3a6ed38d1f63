-- One member more in a tally.
use Rattle.std.proofs.Common.{◌≡◌, ℕ, ◌+◌, ◌-◌, ◌<◌, ◌≤◌, List, [], ◌∷◌, length, get_or, ℤ, sym, ap, ◌∙◌, arith}
use Rattle.family.specs.Bags.{Takes}
use Rattle.judging.specs.Weights.{if_in, if_open, open_weights, sure_weights}
use Rattle.semantics.specs.Markings.{at}
use Rattle.semantics.specs.declared.Mark.{Mark}
use Rattle.semantics.specs.declared.Mark.TheVariants.{Open, In, Out}
use Rattle.semantics.specs.declared.Member.{Member}
use Rattle.table.proofs.Tails.{length_tail, tail, tail_more}
use Rattle.table.specs.Limits.{MemberLimits}
use Rattle.table.specs.View.{no_member}

one_place : (v : Mark) (w : ℤ) (s o : List ℤ) → length (if_in v w s) + length (if_open v w o) ≤ length s + length o + 1
one_place Open w s o = omega arith
one_place In w s o = omega arith
one_place Out w s o = omega arith

-- no member gives more than one weight
weights_few : (m : List Mark) (ms : List Member) → length (sure_weights m ms) + length (open_weights m ms) ≤ length ms
weights_few m [] = omega arith
weights_few m (a ∷ ms) =
    omega (arith, one_place (at m a.statement) a.weight (sure_weights m ms) (open_weights m ms), weights_few m ms)

-- there is room for one more of at most 128
room_left : (m : List Mark) (all : List Member) (first end k statements : ℕ) (a : Member) → first < k → k ≤ end → end ≤ length all → end - first ≤ 128 → MemberLimits statements a → Takes (sure_weights m (tail all end k)) (open_weights m (tail all end k)) a.weight
room_left m all first end k statements a f l i few h =
    record { room = omega (arith, weights_few m (tail all end k), length_tail all end k l i); small = (h.low, h.high) }

-- the member before place k, whose mark is v: what a tally holds of the bags of those from k on, it goes on to hold once
-- the weight is in the place that the mark gives it
module _ (m : List Mark) (all : List Member) (first end k statements : ℕ) (f : first < k) (l : k ≤ end) (i : end ≤ length all) (few : end - first ≤ 128) where
  pub one_more_filled : (Before After : List ℤ → List ℤ → Type 0) (a : Member) (v : Mark) → a ≡ get_or all (k - 1) no_member → MemberLimits statements a → v ≡ at m a.statement → ((s o : List ℤ) → Before s o → Takes s o a.weight → After (if_in v a.weight s) (if_open v a.weight o)) → Before (sure_weights m (tail all end k)) (open_weights m (tail all end k)) → After (sure_weights m (tail all end (k - 1))) (open_weights m (tail all end (k - 1)))
  one_more_filled Before After a v here limits e step h =
      let next : tail all end (k - 1) ≡ a ∷ tail all end k = tail_more all end k no_member (omega arith) l i ∙ ap (λ b. b ∷ tail all end k) (sym here) in
      rw (next, sym e) (step _ _ h (room_left m all first end k statements a f l i few limits))
