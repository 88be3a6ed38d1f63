-- An answer set is a row that obeys itself and of which no smaller part is found by what is removed.
use Rattle.std.proofs.Common.{◌≡◌, ◌↔◌, ℕ, ◌<◌, Bool, true, false, not, List, length, map, get_or, Some, None, Option, is_some, sym, refl, ap, ◌∙◌, subst, ⊎_elim, arith}
use Rattle.std.proofs.Math.Bool.{not-not}
use Rattle.std.proofs.lemmas.Bool.{cases_Bool, cases_lt, false≢true}
use Rattle.std.proofs.lemmas.List.{ext_get_or, get_or-map, get_or_past, length-map}
use Rattle.marking.specs.declared.marking.Marking.{Marking}
use Rattle.search.specs.Search.{Sought}
use Rattle.semantics.proofs.FullMarkings.{row_in}
use Rattle.semantics.proofs.Lists.{all_at, all_from, among_at, among_place}
use Rattle.semantics.proofs.Marks.{marked_once, open_unmarked}
use Rattle.semantics.specs.AnswerSets.{AnswerSet, BodyTrue, obeys, obeys_rule}
use Rattle.semantics.specs.Families.{Values}
use Rattle.semantics.specs.FullMarkings.{Extends, is_in, row_of}
use Rattle.semantics.specs.Lists.{Among}
use Rattle.semantics.specs.Markings.{at, marked}
use Rattle.semantics.specs.Programs.{Program, Rule}
use Rattle.semantics.specs.Rows.{Part, ProperPart, has}
use Rattle.semantics.specs.declared.Mark.{Mark}
use Rattle.semantics.specs.declared.Mark.TheVariants.{Open, In, Out}
use Rattle.solver.proofs.Removing.{rest_has}
use Rattle.solver.specs.Parts.{SmallerBy}
use Rattle.solver.specs.declared.parts.Parts.{Parts}
use Rattle.table.specs.Tables.{program_of, rules_of}
use Rattle.solver.specs.Reducts.{Reduces, keeps}
use Rattle.solver.proofs.Obeying.{meets_obeyed, obeyed_meets}
use Rattle.solver.specs.Smaller.{Meets, MeetsAll, Smaller, SomeSmaller, removable, rest}
use Rattle.table.specs.View.{no_rule}

module _ (value : Values) (p : Program) (s : List Bool) where
  module _ (kept : List Bool) (k : Reduces value p.rules s (length p.rules) kept) where
    -- what holds of every kept rule holds of every rule with a true body
    each_kept : (P : Rule → Type 0) → ((i : ℕ) → i < length p.rules → keeps kept i ≡ true → P (get_or p.rules i no_rule)) → (r : Rule) → Among r p.rules → BodyTrue value s r → P r
    each_kept P h r i b =
        let at = among_place p.rules r i in
        subst P (at.2 no_rule) (h at.0 at.1 ((k.bodies at.0 at.1).1 (subst (BodyTrue value s) (sym (at.2 no_rule)) b)))

    -- a proper part that meets the kept rules obeys, and the other way round
    meets_obeys : (t : List Bool) → Part t s → MeetsAll p.rules kept s t → obeys value s t p.rules ≡ true
    meets_obeys t q h = all_from (obeys_rule value s t) p.rules (λ r i. meets_obeyed value s t q r (each_kept (Meets s t) h r i))

    obeys_meets : (t : List Bool) → Part t s → obeys value s t p.rules ≡ true → MeetsAll p.rules kept s t
    obeys_meets t q o i l e = obeyed_meets value s t q (get_or p.rules i no_rule) (all_at (obeys_rule value s t) p.rules (get_or p.rules i no_rule) o (among_at p.rules i no_rule l)) ((k.bodies i l).0 e)

    pub smaller_none : SomeSmaller p.rules kept s → AnswerSet value p s → ⊥
    smaller_none (removed, h) a = a.minimal (rest removed) h.part (meets_obeys (rest removed) h.part.part h.meets)

    -- a row is what is left where its contrary is removed
    rest_of_rest : (t : List Bool) → rest (rest t) ≡ t
    rest_of_rest t = ext_get_or false (rest (rest t)) t (length-map (rest t) not ∙ length-map t not) (λ q l.
        let i : q < length t = omega (arith, l, length-map (rest t) not, length-map t not) in
        rest_has (rest t) q (omega (arith, i, length-map t not)) ∙ ap not (rest_has t q i) ∙ not-not (has t q))

    pub minimal_answer : length s ≡ p.statements → obeys value s s p.rules ≡ true → (SomeSmaller p.rules kept s → ⊥) → AnswerSet value p s
    minimal_answer l o n = record {
      long = l;
      obeyed = o;
      minimal = λ t h u. n (
        rest t,
        record {
          part = subst (λ x. ProperPart x s) (sym (rest_of_rest t)) h;
          meets = subst (MeetsAll p.rules kept s) (sym (rest_of_rest t)) (obeys_meets t h.part u);
        },
      );
    }

-- the mark of a statement where the search for a smaller part starts
start_at : (row : List Mark) (q : ℕ) → q < length row → at (map removable row) q ≡ removable (at row q)
start_at row q l = get_or-map removable row q Open Open l

-- only what is not in the row is marked there, as removed
outside : (v : Mark) (x : Bool) → removable v ≡ marked x → (x ≡ true) × (v ≡ In → ⊥)
outside Open x e = (sym (marked_once true x refl e), λ i. let w : ◌≡◌ {A = ℕ} 0 1 = cc in omega arith)
outside In x e = absurd (open_unmarked x e)
outside Out x e = (sym (marked_once true x refl e), λ i. let w : ◌≡◌ {A = ℕ} 0 1 = cc in omega arith)

-- so no smaller part is lost
pub smaller_extends : (rules : List Rule) (kept : List Bool) (row : List Mark) (removed : List Bool) → Smaller rules kept (row_of row) removed → Extends (map removable row) removed
smaller_extends rules kept row removed h = record { long = long ∙ sym (length-map row removable); agrees = agrees }
  where
    long : length removed ≡ length row
    long = sym (length-map removed not) ∙ h.part.long ∙ length-map row is_in

    gone : (q : ℕ) → q < length row → (at row q ≡ In → ⊥) → has removed q ≡ true
    gone q l n =
        ⊎_elim
        (λ t. t)
        (λ f. absurd (n (row_in row q (h.part.part q (rest_has removed q (omega (arith, l, long)) ∙ ap not f)))))
        (cases_Bool (has removed q))

    agrees : (q : ℕ) (x : Bool) → at (map removable row) q ≡ marked x → has removed q ≡ x
    agrees q x e =
        ⊎_elim
        (λ l. let o = outside (at row q) x (sym (start_at row q l) ∙ e) in gone q l o.1 ∙ sym o.0)
        (λ l. absurd (open_unmarked x (sym (get_or_past (map removable row) q Open (omega (arith, l, length-map row removable))) ∙ e)))
        (cases_lt q (length row))

-- a search for a smaller part finds one, or there is none
pub smaller_sought : (p : Parts) (n : ℕ) → n ≡ (program_of p.rules.now.table.now).statements → length p.row.now ≡ n → (r : Option Marking) → Sought (SmallerBy p) n (map removable p.row.now) r → (is_some r ≡ true ↔ SomeSmaller (rules_of p.rules.now.table.now) p.reduct.now.kept (row_of p.row.now))
smaller_sought p n e l (Some m) h = ((λ e. (row_of m, h.solution.fitting.smaller)), λ s. refl)
smaller_sought p n e l None h = (
  (λ e. absurd (false≢true e)),
  λ (removed, s).
      let x = smaller_extends (rules_of p.rules.now.table.now) p.reduct.now.kept p.row.now removed s in
      let long : length removed ≡ n = x.long ∙ length-map p.row.now removable ∙ l in
      absurd (h removed record { long = long; fitting = record { long = long ∙ e; smaller = s }; extends = x }),
)
