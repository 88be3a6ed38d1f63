use Rattle.solver.proofs.Finding.{drawn_narrows, weighed}
use Rattle.solver.proofs.accounts.Accounts.weigh.Goals as goal
use Rattle.table.specs.Tables.{program_of}

pub returns : goal.returns
returns g c =
    let value = g.F.Family.value c.args.self.now.family.now in
    let p = program_of c.args.self.now.table.now in
    weighed value p c.args.start c.in-Some.drawn
    (drawn_narrows value p c.args.start c.in-Some.drawn c.in-Some.ensures.drawn c.in-Some.ensures.answers)
    c.args.statement c.told.result c.some_account-has.result c.some_account-lacks.result c.told.ensures.0 c.told.ensures.1 c.some_account-has.ensures c.some_account-lacks.ensures
