-- Families of aggregate functions: what each kind makes of a bag of weights.
use Rattle.std.specs.Prelude.{◌≡◌, ℕ, zero, suc, ◌%◌, ◌≤◌, if◌then◌else◌, List, [], ◌∷◌, length, ℤ, pos, negsuc, ◌+ℤ◌, ◌-ℤ◌, ◌≤ℤ◌, Some, None, Option, int_le}
use Rattle.std.specs.List.Sorted.{IsPermutation}
use Rattle.semantics.specs.Lists.{Among}

-- the value of each kind over each bag: a whole number, or nothing
abbrev pub Values : Type 0
Values = ℕ → List ℤ → Option ℤ

-- a weight within 1,000,000 of zero
abbrev pub Weight : ℤ → Type 0
Weight w = (negsuc 999999 ≤ℤ w) × (w ≤ℤ pos 1000000)

-- at most 128 such weights
pub record Weighed (v : List ℤ) : Type 0 where
  pub few : length v ≤ 128
  pub small : (w : ℤ) → Among w v → Weight w

-- a number within 1,000,000,000,000 of zero
abbrev pub Moderate : ℤ → Type 0
Moderate z = (negsuc 999999999999 ≤ℤ z) × (z ≤ℤ pos 1000000000000)

-- these are the values of a family with that many kinds
pub record Family (kinds : ℕ) (value : Values) : Type 0 where
  pub few : kinds ≤ 256
  pub unordered : (k : ℕ) (v w : List ℤ) → IsPermutation v w → value k w ≡ value k v
  pub lacking : (k : ℕ) (v : List ℤ) → kinds ≤ k → value k v ≡ None

-- and its numbers are within their limit
pub record Lawful (kinds : ℕ) (value : Values) : Type 0 where
  pub family : Family kinds value
  pub moderate : (k : ℕ) (v : List ℤ) (z : ℤ) → Weighed v → value k v ≡ Some z → Moderate z

abbrev pub total : List ℤ → ℤ
total [] = pos 0
total (w ∷ ws) = w +ℤ total ws

-- the lesser of a number and another, where there is another; and so for the greater
abbrev pub lesser : ℤ → Option ℤ → ℤ
lesser w None = w
lesser w (Some v) = if int_le w v then w else v

abbrev pub greater : ℤ → Option ℤ → ℤ
greater w None = w
greater w (Some v) = if int_le v w then w else v

-- the least and the greatest of no weights are nothing, and not zero
abbrev pub least : List ℤ → Option ℤ
least [] = None
least (w ∷ ws) = Some (lesser w (least ws))

abbrev pub greatest : List ℤ → Option ℤ
greatest [] = None
greatest (w ∷ ws) = Some (greater w (greatest ws))

-- a number less another; nothing where either is nothing
abbrev pub less : Option ℤ → Option ℤ → Option ℤ
less None b = None
less (Some a) None = None
less (Some a) (Some b) = Some (a -ℤ b)

-- the house family: 0 count, 1 sum, 2 least weight, 3 greatest weight
abbrev pub house : Values
house zero ws = Some (pos (length ws))
house (suc zero) ws = Some (total ws)
house (suc (suc zero)) ws = least ws
house (suc (suc (suc zero))) ws = greatest ws
house (suc (suc (suc (suc k)))) ws = None

-- the bench family: 0 spread, 1 odd
abbrev pub bench : Values
bench zero ws = less (greatest ws) (least ws)
bench (suc zero) ws = Some (pos (length ws % 2))
bench (suc (suc k)) ws = None
