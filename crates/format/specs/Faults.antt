-- Lists of faults in checking order, and the verdict that they come to.
use Rattle.std.specs.Prelude.{ℕ, zero, suc, Bool, if◌then◌else◌, List, [], ◌∷◌, ◌++◌, Ok, Err, Result}
use Rattle.refusal.specs.declared.Fault.{Fault}
use Rattle.refusal.specs.declared.Refusal.{Refusal}

-- a fault where the test is true
abbrev pub when : Bool → Refusal → ℕ → List Fault
when t r p = if t then record { refusal = r; place = p } ∷ [] else []

-- a fault where the test is false
abbrev pub unless : Bool → Refusal → ℕ → List Fault
unless t r p = if t then [] else record { refusal = r; place = p } ∷ []

-- the faults of the records 0 to n - 1, in order
unfoldable pub each : ℕ → (ℕ → List Fault) → List Fault
each zero f = []
each (suc n) f = each n f ++ f n

-- the first fault, or the value where there is none
abbrev pub verdict : {X : Type 0} → List Fault → X → Result X Fault
verdict [] x = Ok x
verdict (f ∷ fs) x = Err f
