use Rattle.std.proofs.Common.{◌≡◌, true, false, [], bytes_eq, rules}
use Rattle.solver.proofs.First.{first_found}
use Rattle.daybook.proofs.reading.find_statement.Goals as goal
use Rattle.notation.specs.Text.{name_text}
use Rattle.std.proofs.lemmas.Iterator.{first_from_Range}
use Rattle.table.specs.Tables.{contents_of}

pub returns : goal.returns
returns c =
    let names = (contents_of c.args.table.now).names in
    let name = c.args.name.now in
    first_found (λ other. bytes_eq other name) names [] _ c.find.result c.statements.ensures
    (first_from_Range _ _ _ c.find.result (λ q. bytes_eq (name_text names q) name ≡ true) (λ q. bytes_eq (name_text names q) name ≡ false) c.find.ensures.ran
    (λ x q k. search rules)
    (λ x q k. search rules))
