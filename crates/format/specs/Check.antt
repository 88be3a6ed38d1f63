-- What the check says of any bytes.
use Rattle.std.specs.Prelude.{ℕ, Bool, true, false, List, [], ◌∷◌, ◌++◌}
use Rattle.format.specs.Aggregates.{all_aggregate_faults, all_member_faults}
use Rattle.format.specs.Header.{header_faults}
use Rattle.layout.specs.Areas.{count}
use Rattle.format.specs.Rules.{all_rule_faults, all_literal_faults}
use Rattle.format.specs.Statements.{all_statement_faults}
use Rattle.layout.specs.declared.area.Area.TheVariants.{Statements, Rules, Literals, Aggregates, Members, Names}
use Rattle.format.specs.declared.check.Counts.{Counts}
use Rattle.refusal.specs.declared.Fault.{Fault}

-- all faults of the bytes, in checking order
abbrev pub faults : List ℕ → List Fault
faults b =
    header_faults b
    ++ (all_statement_faults b
    ++ (all_rule_faults b
    ++ (all_literal_faults b
    ++ (all_aggregate_faults b
    ++ all_member_faults b))))

-- the six counts that the header gives
abbrev pub counts_of : List ℕ → Counts
counts_of b = record { statements = count b Statements; rules = count b Rules; literals = count b Literals; aggregates = count b Aggregates; members = count b Members; names = count b Names }

abbrev pub none : List Fault → Bool
none [] = true
none (f ∷ fs) = false

-- the bytes have no fault
unfoldable pub accepted : List ℕ → Bool
accepted b = none (faults b)
