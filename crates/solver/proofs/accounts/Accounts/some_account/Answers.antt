use Rattle.solver.proofs.Finding.{excluded_none, some_sought}
use Rattle.solver.proofs.accounts.Accounts.some_account.Goals as goal
use Rattle.solver.specs.Accounts.{Excluded}
use Rattle.std.proofs.lemmas.Bool.{both_ways, false≢true}
use Rattle.table.specs.Tables.{program_of}

pub returns-then-is_excluded : goal.returns-then-is_excluded
returns-then-is_excluded g c =
    let value = g.F.Family.value c.args.self.now.family.now in
    let p = program_of c.args.self.now.table.now in
    ((λ e. absurd (false≢true e)), λ s. absurd (excluded_none value p c.args.marking c.args.statement c.args.present (c.is_excluded.ensures.0 c.if-is_excluded.true) s))

pub returns : goal.returns
returns g c =
    let value = g.F.Family.value c.args.self.now.family.now in
    let p = program_of c.args.self.now.table.now in
    let free : Excluded c.args.marking c.args.statement c.args.present → ⊥ = λ e. both_ways c.is_excluded.result c.if-is_excluded.false (c.is_excluded.ensures.1 e) in
    rw c.is_some.ensures (some_sought value p c.args.marking c.args.statement c.args.present free c.earliest.result (rw (c.with.ensures, c.from.ensures) at c.earliest.ensures))
