-- Which findings stand after visits to a sheet: worked from the number of statements and from what is asked, alone.
use Rattle.std.specs.Prelude.{ℕ, ◌-◌, Bool, true, not, ◌&&◌, List, [], ◌∷◌, ◌++◌, length, take, ◌==◌, nat_lt}
use Rattle.std.specs.List.{list_any}
use Rattle.format.specs.Faults.{unless, when}
use Rattle.refusal.specs.declared.Fault.{Fault}
use Rattle.refusal.specs.declared.Refusal.TheVariants.{FindingStands, NoFinding, SheetFull, UnknownStatement}
use Rattle.semantics.specs.declared.Finding.{Finding}
use Rattle.sheet.specs.declared.visits.Visit.{Visit}
use Rattle.sheet.specs.declared.visits.Visit.TheVariants.{Draw, Enter, Seek, Suppose, Weigh, Withdraw}

-- one of the findings is of statement q
abbrev pub is_listed : List Finding → ℕ → Bool
is_listed fs q = list_any (λ f. f.statement == q) fs

-- each is of one of n statements, and no two are of the same
abbrev pub are_apart : ℕ → List Finding → Bool
are_apart n [] = true
are_apart n (f ∷ fs) = nat_lt f.statement n && (not (is_listed fs f.statement) && are_apart n fs)

-- why a finding of statement q is not entered where these stand: 27, 28 and 29
abbrev pub entering_faults : ℕ → List Finding → ℕ → List Fault
entering_faults n fs q =
    unless (nat_lt q n) UnknownStatement q
    ++ (when (is_listed fs q) FindingStands 0
    ++ unless (nat_lt (length fs) 64) SheetFull 0)

-- why none is withdrawn: 30
abbrev pub withdrawing_faults : List Finding → List Fault
withdrawing_faults fs = unless (nat_lt 0 (length fs)) NoFinding 0

-- the one where there are no faults, and else the other
abbrev pub if_none : {X : Type 0} → List Fault → X → X → X
if_none [] x y = x
if_none (e ∷ es) x y = y

-- all but the last
abbrev pub without_last : List Finding → List Finding
without_last fs = take (length fs - 1) fs

-- what stands after a visit: only entering and withdrawing change it, where they are not refused
abbrev pub after : ℕ → Visit → List Finding → List Finding
after n (Enter f) fs = if_none (entering_faults n fs f.statement) (fs ++ f ∷ []) fs
after n Withdraw fs = without_last fs
after n Draw fs = fs
after n Seek fs = fs
after n (Weigh q) fs = fs
after n (Suppose f) fs = fs

abbrev pub after_all : ℕ → List Visit → List Finding → List Finding
after_all n [] fs = fs
after_all n (v ∷ vs) fs = after_all n vs (after n v fs)

-- what stands after visits to a sheet of n statements that is begun empty
abbrev pub ledger : ℕ → List Visit → List Finding
ledger n visits = after_all n visits []
