-- The aggregates of a table whose kind a family lacks.
use Rattle.std.specs.Prelude.{ℕ, ◌<◌, List, length, nat_lt, slice_index_or}
use Rattle.format.specs.Aggregates.{aggregate_at}
use Rattle.format.specs.Faults.{each, unless}
use Rattle.refusal.specs.declared.Fault.{Fault}
use Rattle.refusal.specs.declared.Refusal.TheVariants.{LackingKind}
use Rattle.semantics.specs.Programs.{Aggregate}
use Rattle.table.specs.Contents.{contents}
use Rattle.table.specs.View.{no_aggregate}

-- the kind of aggregate j
abbrev pub kind_of : List Aggregate → ℕ → ℕ
kind_of gs j = (slice_index_or gs j no_aggregate).kind

-- every kind is one of so many
abbrev pub KindsKnown : ℕ → List Aggregate → Type 0
KindsKnown kinds gs = (j : ℕ) → j < length gs → kind_of gs j < kinds

-- a fault where the kind of aggregate j is not one of so many; its kind stands where its record begins
abbrev pub kind_faults : ℕ → List ℕ → ℕ → List Fault
kind_faults kinds b j = unless (nat_lt (kind_of (contents b).aggregates j) kinds) LackingKind (aggregate_at b j)

-- all such faults of the aggregates that a table of these bytes has, by number
abbrev pub lacking : ℕ → List ℕ → List Fault
lacking kinds b = each (length (contents b).aggregates) (kind_faults kinds b)
