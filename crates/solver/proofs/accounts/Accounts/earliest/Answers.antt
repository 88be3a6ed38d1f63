use Rattle.search.specs.Search.{EarliestSolution}
use Rattle.semantics.specs.AnswerSets.{AnswerSet}
use Rattle.solver.proofs.Finding.{found_account}
use Rattle.solver.proofs.accounts.Accounts.earliest.Goals as goal
use Rattle.std.proofs.Common.{◌∙◌, ap, subst}
use Rattle.table.specs.Tables.{program_of}

-- what is sought of the rules as they were read is sought of the table
pub returns : goal.returns
returns g c =
    let value = g.F.Family.value c.args.self.now.family.now in
    let start = c.args.start in
    let marks = c.in_ok-marks.marks in
    let same = ap (λ r. r.table.now) c.new-seeker.ensures.table ∙ c.new-rules.ensures in
    let found = subst (λ t. EarliestSolution (AnswerSet value (program_of t)) (program_of t).statements start marks) same (rw c.new-seeker.ensures.family at c.in_ok-marks.ensures) in
    found_account value (program_of c.args.self.now.table.now) start marks c.from.result c.from.ensures found
