use Rattle.format.proofs.Verdicts.{clean, goes_past, parts}
use Rattle.format.specs.Faults.{verdict}
use Rattle.sheet.proofs.Apart.{apart_entered, noted_apart}
use Rattle.sheet.proofs.Refused.{answered, refused_early, refused_late, same_statements, stays}
use Rattle.sheet.proofs.sheet.Sheet.supposed.Goals as goal
use Rattle.sheet.specs.Ledger.{entering_faults}
use Rattle.sheet.specs.Outcomes.{part_faults, table_faults}
use Rattle.sheet.specs.Sheets.{standing}
use Rattle.sheet.specs.declared.sheet.Sheet.{Sheet}
use Rattle.refusal.specs.declared.Fault.{Fault}
use Rattle.std.proofs.Common.{◌≡◌, Ok, List, ℕ, ap, sym, ◌++◌, ◌∷◌, []}
use Rattle.table.specs.Tables.{program_of}

-- why nothing is supposed, whatever the part is
abbrev early : Sheet → ℕ → List ℕ → ℕ → List Fault
early s kinds b q = table_faults kinds b s.statements ++ entering_faults s.statements (standing s) q

pub returns-in_err-check_supposing-clause-outcome : goal.returns-in_err-check_supposing-clause-outcome
returns-in_err-check_supposing-clause-outcome g c =
    let s = c.args.self.now in
    let faults = early s (g.F.Family.size c.args.family.now) c.args.table.now.bytes.now c.args.finding.statement in
    (refused_early faults _ c.from_residual.result c.in_err-check_supposing.field-0.0 c.from_residual.ensures.1 (part_faults s.statements c.args.part.now) c.in_err-check_supposing.ensures.verdict, stays c.args.part.now c.from_residual.result)

pub returns-in_err-check_part-clause-outcome : goal.returns-in_err-check_part-clause-outcome
returns-in_err-check_part-clause-outcome g c =
    let s = c.args.self.now in
    let r = c.from_residual-in_err-check_part.result in
    let faults = early s (g.F.Family.size c.args.family.now) c.args.table.now.bytes.now c.args.finding.statement in
    (refused_late (part_faults s.statements c.args.part.now) _ r c.in_err-check_part.field-0.0 c.from_residual-in_err-check_part.ensures.1 faults c.in_ok-check_supposing.ensures.verdict c.in_err-check_part.ensures, stays c.args.part.now r)

pub write_earliest-requires-clause-noted : goal.write_earliest-requires-clause-noted
write_earliest-requires-clause-noted g c =
    let s = c.args.self.now in
    let b = c.args.table.now.bytes.now in
    let kinds = g.F.Family.size c.args.family.now in
    let entering = entering_faults s.statements (standing s) c.args.finding.statement in
    let ok : Ok (tt {0}) ≡ verdict (early s kinds b c.args.finding.statement) (tt {0}) = c.in_ok-check_supposing.ensures.verdict in
    let none = parts (table_faults kinds b s.statements) entering (clean (early s kinds b c.args.finding.statement) (tt {0}) (tt {0}) (sym ok)) in
    rw (c.all.ensures.value, c.of-supposition.ensures.listed)
    (noted_apart (program_of c.args.table.now) s.statements (standing s ++ c.args.finding ∷ []) (same_statements kinds b s.statements entering ok) (apart_entered s.statements (standing s) c.args.finding (tt {0}) s.apart (ap (λ es. verdict es (tt {0})) none.1)))

pub returns-clause-outcome : goal.returns-clause-outcome
returns-clause-outcome g c =
    let s = c.args.self.now in
    let faults = early s (g.F.Family.size c.args.family.now) c.args.table.now.bytes.now c.args.finding.statement in
    let late = part_faults s.statements c.args.part.now in
    (answered (faults ++ late) _ c.write_earliest.result (goes_past (Ok (tt {0})) faults late (tt {0}) c.in_ok-check_supposing.ensures.verdict c.in_ok-check_part.ensures) (rw (c.all.ensures.value, c.of-supposition.ensures.listed) at c.write_earliest.ensures), tt)
