use Rattle.rulesets.proofs.Searching.{some_decided}
use Rattle.rulesets.proofs.judge.Judge.is_impossible.Goals as goal
use Rattle.rulesets.specs.Judging.{Tells, aggregate_in, contents_in}
use Rattle.semantics.specs.Markings.{Impossible}
use Rattle.semantics.specs.Programs.{Aggregate}
use Rattle.std.proofs.Common.{◌-◌, ℕ, false, refl, rules, true}
use Rattle.std.proofs.lemmas.Bool.{false≢true}
use Rattle.std.proofs.lemmas.Iterator.{YieldsList-from_range, cases_from_any}
use Rattle.table.specs.View.{no_aggregate}

pub returns : goal.returns
returns g c = λ gs cover.
    let run = c.args.run in
    let P : Aggregate → Type 0 = Impossible (g.F.Family.value c.args.self.now.family.now) c.args.marking.now in
    let Yes : ℕ → Type 0 = λ j. P (aggregate_in c.args.self.now j) in
    let No : ℕ → Type 0 = λ j. P (aggregate_in c.args.self.now j) → ⊥ in
    let by_place = cases_from_any _ _ c.any.result Yes No c.any.ensures.ran (YieldsList-from_range run.first run.end (run.end - run.first) refl refl)
    (λ x q k. let told : Tells true (Yes x) = search rules in told.so refl)
    (λ x q k. (search rules, let told : Tells false (Yes x) = search rules in λ p. false≢true (told.from p))) in
    some_decided (contents_in c.args.self.now).aggregates gs run no_aggregate P cover c.any.result by_place
