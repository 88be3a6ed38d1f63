use Rattle.semantics.specs.FullMarkings.{is_in, row_of}
use Rattle.solver.proofs.Removing.{differs_some, part_differs}
use Rattle.solver.proofs.parts.Parts.is_proper_part.Goals as goal
use Rattle.std.proofs.Common.{⊎_elim, arith, length, sym, ◌≡◌, ◌∙◌}
use Rattle.std.proofs.lemmas.Bool.{both_ways, cases_Bool}
use Rattle.std.proofs.lemmas.List.{length-map}

pub returns-then-is_part : goal.returns-then-is_part
returns-then-is_part c = λ full.
    let m = c.args.removed.now in
    let row = c.args.self.now.row.now in
    let same : length m ≡ length row = sym c.statements.ensures.value ∙ c.if-statements.false ∙ c.statements-2.ensures.value in
    let long : length (row_of m) ≡ length (row_of row) = omega (arith, length-map m is_in, length-map row is_in, same) in (
      (λ e. part_differs (row_of row) (row_of m) long ((c.is_part.ensures full).0 c.if-is_part.true) (c.removes_some.ensures.0 e)),
      λ p. ⊎_elim (λ e. e) (λ e. absurd (differs_some (row_of row) (row_of m) p (λ s. both_ways c.removes_some.result e (c.removes_some.ensures.1 s)))) (cases_Bool c.removes_some.result),
    )
