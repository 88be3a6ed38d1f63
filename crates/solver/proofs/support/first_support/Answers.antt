use Rattle.std.proofs.Common.{◌≡◌, ◌↔◌, Bool, IsTrue, true, false, rules, ℕ}
use Rattle.rulesets.specs.Judging.{rule_in, program_in}
use Rattle.semantics.specs.AnswerSets.{Supports}
use Rattle.semantics.specs.FullMarkings.{row_of}
use Rattle.semantics.specs.Markings.{at}
use Rattle.semantics.specs.declared.Mark.TheVariants.{In}
use Rattle.solver.proofs.First.{first_found}
use Rattle.solver.proofs.Supporting.{supports_same}
use Rattle.solver.proofs.support.first_support.Goals as goal
use Rattle.solver.specs.Reducts.{Whole}
use Rattle.solver.specs.Support.{supports}
use Rattle.std.proofs.lemmas.Iterator.{first_from_Range}
use Rattle.table.specs.View.{no_rule}

pub returns : goal.returns
returns g c = λ whole present.
    let book = c.args.judge.now in
    let value = g.F.Family.value book.family.now in
    let s = row_of c.args.row.now in
    let q = c.args.statement in
    let Tells = λ (b : Bool) (i : ℕ). Whole (program_in book).statements c.args.row.now → at c.args.row.now q ≡ In → (IsTrue b ↔ Supports value s q (rule_in book i)) in
    first_found (supports value s q) (program_in book).rules no_rule _ c.find.result c.rules.ensures
    (first_from_Range _ _ _ c.find.result (λ i. supports value s q (rule_in book i) ≡ true) (λ i. supports value s q (rule_in book i) ≡ false) c.find.ensures.ran
    (λ i f k. let told : Tells true i = search rules in supports_same value s q (rule_in book i) true (told whole present))
    (λ i f k. (search rules, let told : Tells false i = search rules in supports_same value s q (rule_in book i) false (told whole present))))
