use Rattle.sheet.proofs.Apart.{apart_entered}
use Rattle.sheet.proofs.sheet.Sheet.note.Goals as goal
use Rattle.sheet.specs.Ledger.{are_apart}
use Rattle.sheet.specs.Standing.{listed}
use Rattle.std.proofs.Common.{ap, arith, refl, sym, ◌∙◌}

pub invariant_of-self : goal.invariant_of-self
invariant_of-self c =
    let s = c.args.self.now in
    record {
      few = omega (arith, c.in_ok-check_entry.ensures.room refl, c.push.ensures.count);
      apart = ap (are_apart s.statements) c.push.ensures.listed ∙ apart_entered s.statements (listed s.findings) c.args.finding _ s.apart (sym c.in_ok-check_entry.ensures.verdict);
    }
