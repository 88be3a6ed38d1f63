use Rattle.drawing.proofs.Applying.{applied_forced, applied_none, applied_weaker}
use Rattle.drawing.proofs.Supported.{many_passed, none_passed, one_passed, one_passed_unless_in, unsupported_wanted}
use Rattle.drawing.proofs.statements.apply_statement.Goals as goal
use Rattle.semantics.specs.Markings.{at}
use Rattle.semantics.specs.declared.Mark.TheVariants.{In}
use Rattle.table.specs.Contents.{program}
use Rattle.table.specs.Tables.{program_of}
use Rattle.std.proofs.Common.{◌≡◌, false, rules}

pub returns-in-Unsupported : goal.returns-in-Unsupported
returns-in-Unsupported c = λ value h.
    let p = program_of c.args.table.now in
    let m = c.args.marking.now in
    let none = rw c.in-Unsupported.is at h in
    applied_weaker value p m _ _ _ c.force.result (λ t s. none_passed value p.rules m c.args.statement none t)
    (applied_forced value p m c.args.statement false (unsupported_wanted value p m c.args.statement none) _ c.force.result c.force.ensures)

pub returns-then-eq : goal.returns-then-eq
returns-then-eq c = λ value h.
    let p = program_of c.args.table.now in
    let m = c.args.marking.now in
    let i = c.in-OneRule.is in
    let one = rw i at h in
    let within : at m c.args.statement ≡ In = search rules in
    applied_weaker value p m _ _ _ c.explain.result (λ x s. one_passed value p.rules m c.args.statement c.in-OneRule.rule one (rw i at s) x)
    (c.explain.ensures value one within)

pub returns-else-eq : goal.returns-else-eq
returns-else-eq c = λ value h.
    let p = program_of c.args.table.now in
    let m = c.args.marking.now in
    let i = c.in-OneRule.is in
    let without : at m c.args.statement ≡ In → ⊥ = search rules in
    applied_none value p m _ (λ s. one_passed_unless_in value p.rules m c.args.statement c.in-OneRule.rule (rw i at h) (rw i at s) without)

pub returns-in-ManyRules : goal.returns-in-ManyRules
returns-in-ManyRules c = λ value h.
    let p = program_of c.args.table.now in
    let m = c.args.marking.now in
    applied_none value p m _ (λ s. many_passed value p.rules m c.args.statement (rw c.in-ManyRules.is at s))
