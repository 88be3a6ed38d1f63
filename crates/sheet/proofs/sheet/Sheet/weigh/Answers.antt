use Rattle.sheet.proofs.Ledgers.{lawful}
use Rattle.sheet.proofs.sheet.Sheet.weigh.Goals as goal
use Rattle.sheet.specs.Law.{answer_of}
use Rattle.sheet.specs.Sheets.{standing}
use Rattle.sheet.specs.declared.visits.Answer.TheVariants.{Weighed}
use Rattle.sheet.specs.declared.visits.Visit.TheVariants.{Weigh}
use Rattle.std.proofs.Common.{refl, []}

pub returns-clause-law : goal.returns-clause-law
returns-clause-law g c =
    let s = c.args.self.now in
    lawful (g.F.Family.size c.args.family.now) (g.F.Family.value c.args.family.now) c.args.table.now.bytes.now s.statements (standing s) (standing s) (Weigh c.args.statement) [] [] (answer_of Weighed c.weighed.result) (c.weighed.result, c.weighed.ensures, refl, refl) refl
