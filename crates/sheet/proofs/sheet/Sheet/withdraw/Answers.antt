use Rattle.sheet.proofs.Ledgers.{lawful}
use Rattle.sheet.proofs.sheet.Sheet.withdraw.Goals as goal
use Rattle.sheet.specs.Law.{answer_of}
use Rattle.sheet.specs.Sheets.{standing}
use Rattle.sheet.specs.declared.visits.Answer.TheVariants.{Withdrawn}
use Rattle.sheet.specs.declared.visits.Visit.TheVariants.{Withdraw}
use Rattle.std.proofs.Common.{refl, []}

pub returns-clause-law : goal.returns-clause-law
returns-clause-law c =
    let s = c.args.self.now in
    λ kinds value b. lawful kinds value b s.statements (standing s) _ Withdraw [] [] (answer_of Withdrawn c.take_last.result) (c.take_last.result, c.take_last.ensures.outcome, refl, refl) c.take_last.ensures.standing
