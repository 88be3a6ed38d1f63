-- The presence family, and the bags that its tally stands for.
use Rattle.presence.specs.declared.tally.PresenceTally.{PresenceTally}
use Rattle.semantics.specs.Families.{Values}
use Rattle.std.specs.Prelude.{◌≡◌, ℕ, zero, suc, min, List, length, ℤ, pos, Some, None}

-- 0 whether there is a weight: 1 where there is, and 0 where there is none
abbrev pub presence : Values
presence zero ws = Some (pos (min (length ws) 1))
presence (suc k) ws = None

-- the tally is of this kind and has counted these bags
pub record Stands (t : PresenceTally) (k : ℕ) (s o : List ℤ) : Type 0 where
  pub kind : t.kind ≡ k
  pub sure : t.sure ≡ length s
  pub opens : t.opens ≡ length o
