use Rattle.semantics.specs.FullMarkings.{row_of}
use Rattle.solver.proofs.Comparing.{any_below}
use Rattle.solver.proofs.Pruning.{meets_decided}
use Rattle.solver.proofs.parts.Parts.fails_none.Goals as goal
use Rattle.solver.specs.Reducts.{Whole}
use Rattle.solver.specs.Smaller.{Fails, rest}
use Rattle.std.proofs.Common.{◌≡◌, ◌↔◌, Bool, IsTrue, arith, false, length, refl, rules, true, ℕ}
use Rattle.std.proofs.lemmas.Bool.{false≢true}
use Rattle.std.proofs.lemmas.Iterator.{YieldsList-from_range, cases_from_any}
use Rattle.table.specs.Tables.{program_of, rules_of}

pub returns : goal.returns
returns c = λ whole long.
    let p = c.args.self.now in
    let m = c.args.removed.now in
    let n = c.rules.result in
    let s = row_of p.row.now in
    let t = rest (row_of m) in
    let all = rules_of p.rules.now.table.now in
    let FailsAt : ℕ → Type 0 = Fails all p.reduct.now.kept s t in
    let Tells = λ (b : Bool) (i : ℕ). Whole (program_of p.rules.now.table.now).statements m → length m ≡ length p.row.now → (IsTrue b ↔ FailsAt i) in
    let any = cases_from_any _ _ c.any.result FailsAt (λ k. FailsAt k → ⊥) c.any.ensures.ran (YieldsList-from_range 0 n n refl (omega arith))
    (λ x q k. let told : Tells true x = search rules in (told whole long).0 refl)
    (λ x q k. (search rules, let told : Tells false x = search rules in λ f. false≢true ((told whole long).1 f))) in
    let found = rw c.rules.ensures at (any_below c.any.result n FailsAt (λ k. FailsAt k → ⊥) any) in
    meets_decided all p.reduct.now.kept s t c.any.result found.0 found.1
