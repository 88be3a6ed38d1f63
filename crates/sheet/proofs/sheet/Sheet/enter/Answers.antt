use Rattle.sheet.proofs.Ledgers.{lawful}
use Rattle.sheet.proofs.sheet.Sheet.enter.Goals as goal
use Rattle.sheet.specs.Law.{answer_of}
use Rattle.sheet.specs.Sheets.{standing}
use Rattle.sheet.specs.declared.visits.Answer.TheVariants.{Entered}
use Rattle.sheet.specs.declared.visits.Visit.TheVariants.{Enter}
use Rattle.std.proofs.Common.{refl, []}

pub returns-clause-law : goal.returns-clause-law
returns-clause-law c =
    let s = c.args.self.now in
    λ kinds value b. lawful kinds value b s.statements (standing s) _ (Enter c.args.finding) [] [] (answer_of (λ _. Entered) c.note.result) (c.note.result, c.note.ensures.outcome, refl, refl) c.note.ensures.standing
