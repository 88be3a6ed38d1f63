-- The presence family is lawful. A family's laws stand in specs/, where its implementation can name them.
use Rattle.presence.specs.Values.{presence}
use Rattle.semantics.proofs.Families.{none_some, same_some}
use Rattle.semantics.specs.Families.{Lawful, Moderate, Weighed}
use Rattle.std.proofs.Common.{◌≡◌, ℕ, zero, suc, ◌≤◌, min, List, ℤ, pos, Some, None, refl, ap, subst, arith}
use Rattle.std.proofs.lemmas.Int.{ints}
use Rattle.std.proofs.lemmas.List.Sorted.{length_permutation}
use Rattle.std.specs.List.Sorted.{IsPermutation}

unordered : (k : ℕ) (v w : List ℤ) → IsPermutation v w → presence k w ≡ presence k v
unordered zero v w s = ap (λ n. Some (pos (min n 1))) (length_permutation v w s)
unordered (suc k) v w s = refl

lacking : (k : ℕ) (v : List ℤ) → 1 ≤ k → presence k v ≡ None
lacking zero v l = absurd (omega (arith, l))
lacking (suc k) v l = refl

moderate : (k : ℕ) (v : List ℤ) (z : ℤ) → Weighed v → presence k v ≡ Some z → Moderate z
moderate zero v z h e = subst Moderate (same_some e) (omega (arith, ints), omega (arith, ints))
moderate (suc k) v z h e = absurd (none_some e)

pub presence_lawful : Lawful 1 presence
presence_lawful = record { family = record { few = omega arith; unordered = unordered; lacking = lacking }; moderate = moderate }
