-- The marking of findings agrees with the same rows as the findings.
use Rattle.std.proofs.Common.{◌≡◌, ℕ, ◌<◌, Bool, eqb, List, [], ◌∷◌, sym, refl, ap, ◌∙◌, inl, inr, ⊎_elim, arith}
use Rattle.std.proofs.lemmas.List.FromFn.{length-map-range_with_len, get_or-map-range_with_len}
use Rattle.std.proofs.lemmas.Bool.{cases_Bool, cond-true, cond-false, eqb-true}
use Rattle.semantics.specs.declared.Finding.{Finding}
use Rattle.semantics.specs.declared.Mark.TheVariants.{Open}
use Rattle.semantics.specs.AnswerSets.{AgreesWith}
use Rattle.semantics.specs.Lists.{Among}
use Rattle.semantics.specs.Markings.{Agrees, at, marked, found, noted}
use Rattle.semantics.specs.Programs.{Program}
use Rattle.semantics.specs.Rows.{has}
use Rattle.semantics.specs.Theorems.{NotedAgrees}
use Rattle.semantics.proofs.Marks.{open_unmarked, marked_once, marked_inside}

-- a mark that findings give, some finding gives
finding_of_mark : (findings : List Finding) (q : ℕ) (x : Bool) → found findings q ≡ marked x
    → (f : Finding) × Among f findings × (f.statement ≡ q) × (f.present ≡ x)
finding_of_mark [] q x e = absurd (open_unmarked x e)
finding_of_mark (f ∷ fs) q x e =
    ⊎_elim
    (λ t. (f, inl refl, eqb-true f.statement q t, marked_once f.present x refl (sym (cond-true _ _ _ t) ∙ e)))
    (λ t. let g = finding_of_mark fs q x (sym (cond-false _ _ _ t) ∙ e) in (g.0, inr g.1, g.2, g.3))
    (cases_Bool (eqb f.statement q))

noted_at : (p : Program) (findings : List Finding) (q : ℕ) → q < p.statements → at (noted p findings) q ≡ found findings q
noted_at p findings q l = get_or-map-range_with_len (found findings) 0 p.statements q q Open l (omega arith)

-- a row that agrees with findings agrees with their marking, whatever the findings are
pub findings_agreed : (p : Program) (findings : List Finding) (s : List Bool) → AgreesWith findings s → Agrees (noted p findings) s
findings_agreed p findings s a q x e =
    let inside : q < p.statements = omega (arith, marked_inside (noted p findings) q x e, length-map-range_with_len (found findings) 0 p.statements) in
    let f = finding_of_mark findings q x (sym (noted_at p findings q inside) ∙ e) in
    ap (has s) (sym f.2) ∙ a f.0 f.1 ∙ f.3

pub noted_agrees : NotedAgrees
noted_agrees p findings s n = (findings_agreed p findings s, λ a f i. a f.statement f.present (noted_at p findings f.statement (n.inside f i) ∙ n.single f i))
