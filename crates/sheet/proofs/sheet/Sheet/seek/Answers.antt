use Rattle.sheet.proofs.Ledgers.{lawful}
use Rattle.sheet.proofs.sheet.Sheet.seek.Goals as goal
use Rattle.sheet.specs.Law.{answer_of}
use Rattle.sheet.specs.Sheets.{standing}
use Rattle.sheet.specs.declared.visits.Answer.TheVariants.{Sought}
use Rattle.sheet.specs.declared.visits.Visit.TheVariants.{Seek}
use Rattle.std.proofs.Common.{refl}

pub returns-clause-law : goal.returns-clause-law
returns-clause-law g c =
    let s = c.args.self.now in
    lawful (g.F.Family.size c.args.family.now) (g.F.Family.value c.args.family.now) c.args.table.now.bytes.now s.statements (standing s) (standing s) Seek c.args.part.now c.sought.new.part (answer_of Sought c.sought.result) (c.sought.result, c.sought.ensures, refl) refl
