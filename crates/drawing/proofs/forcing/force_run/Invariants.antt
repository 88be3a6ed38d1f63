use Rattle.drawing.proofs.forcing.force_run.Given as goal
use Rattle.drawing.specs.Applying.{EachOther, IsMarked}
use Rattle.drawing.specs.Deriving.{Derived, Wanted}
use Rattle.semantics.specs.Families.{Values}
use Rattle.semantics.specs.Programs.{Program}
use Rattle.table.specs.Tables.{contents_of}
use Rattle.std.proofs.Common.{◌≡◌}

-- what stands before place k is marked
abbrev pub invariant-loop-k : goal.invariant-loop-k
invariant-loop-k l = (value : Values) (p : Program) → EachOther (λ q. Wanted value p l.initial.marking q l.present) (contents_of l.table).literals l.initial.k l.k-end l.except → Derived value p l.initial.marking l.marking × (l.marking ≡ l.initial.marking → EachOther (IsMarked l.initial.marking l.present) (contents_of l.table).literals l.initial.k l.k l.except)
