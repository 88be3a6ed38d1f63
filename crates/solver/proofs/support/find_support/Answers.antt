use Rattle.std.proofs.Common.{◌≡◌, ◌∙◌, rules, subst, sym, tests}
use Rattle.semantics.specs.Markings.{at}
use Rattle.semantics.specs.declared.Mark.TheVariants.{In}
use Rattle.solver.proofs.Supporting.{marked_whole, never_by_none, said_of, stands_on}
use Rattle.solver.proofs.support.find_support.Goals as goal
use Rattle.solver.specs.Reducts.{Whole}
use Rattle.solver.specs.Support.{StandsOn, row_read}
use Rattle.table.specs.Tables.{program_of}

pub returns-clause-value : goal.returns-clause-value
returns-clause-value g c =
    let p = program_of c.args.table.now in
    let present : at c.read_row-row.result c.args.statement ≡ In = search (rules, tests) in
    c.by_first.ensures
    ∙ said_of (g.F.Family.value c.args.family.now) p (row_read p.statements c.args.bytes.now) c.read_row-row.result c.args.statement c.first_support.result c.read_row-row.ensures present
    (rw c.new-rules.ensures at c.first_support.ensures (subst (Whole p.statements) (sym c.read_row-row.ensures) (marked_whole p.statements c.args.bytes.now)) present)

-- what is said so is so, and of an answer set it is never said that no rule supports a statement
pub returns-clause-stands : goal.returns-clause-stands
returns-clause-stands g c =
    let value = g.F.Family.value c.args.family.now in
    let p = program_of c.args.table.now in
    let s = row_read p.statements c.args.bytes.now in
    subst (StandsOn value p s c.args.statement) (sym (returns-clause-value g c)) (stands_on value p s c.args.statement)

pub returns-clause-answer_set : goal.returns-clause-answer_set
returns-clause-answer_set g c = λ a e.
    let value = g.F.Family.value c.args.family.now in
    let p = program_of c.args.table.now in
    never_by_none value p (row_read p.statements c.args.bytes.now) c.args.statement a (sym (returns-clause-value g c) ∙ e)
