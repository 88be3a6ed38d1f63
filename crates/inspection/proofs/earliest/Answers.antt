use Rattle.inspection.proofs.earliest.Goals as goal
use Rattle.semantics.specs.Families.{house}
use Rattle.semantics.specs.Theorems.{Noted}
use Rattle.solver.proofs.Finding.{sought_for}
use Rattle.solver.proofs.Starting.{noted_start}
use Rattle.std.proofs.Common.{[]}
use Rattle.table.specs.Tables.{program_of}

pub returns : goal.returns
returns c =
    let p = program_of c.args.table.now in
    let none : Noted p [] = record { inside = λ f i. absurd i; single = λ f i. absurd i } in
    let start = noted_start c.args.table.now.bytes.now [] _ c.noted.result c.statements.ensures c.noted.ensures in
    sought_for house p [] none c.earliest.result (rw (c.new.ensures.table, start) at c.earliest.ensures)
