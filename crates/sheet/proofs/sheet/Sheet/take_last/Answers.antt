use Rattle.std.proofs.Common.{ap, ◌∙◌, sym, arith}
use Rattle.sheet.proofs.Apart.{apart_before}
use Rattle.sheet.specs.Ledger.{are_apart}
use Rattle.sheet.specs.Standing.{listed}
use Rattle.sheet.proofs.sheet.Sheet.take_last.Goals as goal

pub invariant_of-self : goal.invariant_of-self
invariant_of-self c =
    let s = c.args.self.now in
    record {
      few = omega (arith, c.pop.ensures.count, s.few);
      apart = apart_before s.statements (listed c.pop.new.self) _ (sym (ap (are_apart s.statements) c.pop.ensures.listed) ∙ s.apart);
    }
