-- The marks under which a rule is failed, and what the rules that are kept demand.
use Rattle.std.proofs.Common.{◌≡◌, ◌==◌, ◌&&◌, ◌↔◌, IsTrue, ℕ, ◌<◌, Bool, true, false, not, List, length, get_or, ap, sym, ◌∙◌, ⊎_elim, arith, subst}
use Rattle.std.proofs.lemmas.Bool.{and_parts, both_ways, cases_Bool, eqb-true, not-true, not_from_false, or_cases}
use Rattle.std.proofs.lemmas.List.{length-map}
use Rattle.marking.specs.Marks.{is_out}
use Rattle.rulesets.specs.Rulesets.{has_member}
use Rattle.search.specs.Nogoods.{Nogood}
use Rattle.semantics.proofs.FullMarkings.{row_extends}
use Rattle.semantics.proofs.Lists.{any_one}
use Rattle.semantics.proofs.Marks.{marked_inside, same_value}
use Rattle.semantics.specs.FullMarkings.{is_in, row_of}
use Rattle.semantics.specs.Markings.{Agrees, Below, at, marked}
use Rattle.semantics.specs.Programs.{Rule}
use Rattle.semantics.specs.Rows.{has}
use Rattle.semantics.specs.declared.Mark.{Mark}
use Rattle.solver.proofs.Bodies.{nth_known, row_marked}
use Rattle.solver.proofs.Comparing.{in_mark, out_mark}
use Rattle.solver.proofs.Removing.{fails_from, head_meets, lack_meets, listed, rest_has, rest_lacks}
use Rattle.solver.specs.Parts.{FailsBy, SmallerBy}
use Rattle.solver.specs.Reducts.{Whole, keeps}
use Rattle.solver.specs.Smaller.{Fails, FailingMarks, Meets, MeetsAll, heads, needs, rest}
use Rattle.solver.specs.declared.parts.Parts.{Parts}
use Rattle.std.specs.List.{list_any}
use Rattle.table.proofs.Limits.{Known}
use Rattle.table.specs.Tables.{nth_rule, program_of, rules_of}
use Rattle.table.specs.View.{no_rule}

module _ (n : ℕ) (s : List Bool) (r : Rule) (known : Known n r) where
  -- the head of a rule, and what it needs, are statements of the program
  heads_known : (q : ℕ) → heads r q ≡ true → q < n
  heads_known q h = known.head q (listed q r.head h)

  needs_known : (q : ℕ) → needs s r q ≡ true → q < n
  needs_known q h = ⊎_elim
      (λ p. known.positive q (listed q r.positive p))
      (λ o.
      let (g, i, m) = any_one (λ g. has_member q g.members) r.aggregates (and_parts _ (has s q) o).0 in
      let (a, j, e) = any_one (λ a. a.statement == q) g.members m in
      subst (λ p. p < n) (eqb-true a.statement q e) (known.members g a i j))
      (or_cases (list_any (λ p. p == q) r.positive) (list_any (λ g. has_member q g.members) r.aggregates && has s q) h)

module _ (s : List Bool) (r : Rule) (known : Known (length s) r) (n : List Mark) (f : FailingMarks s r n) where
  -- what is left fails the rule where what is removed agrees with its marks
  pub agreeing_fails : (removed : List Bool) → length removed ≡ length s → Agrees n removed → Meets s (rest removed) r → ⊥
  agreeing_fails removed long agrees = fails_from s (rest removed) r
      (λ q h.
      let l : q < length s = heads_known (length s) s r known q h in
      rest_lacks removed q (agrees q true (in_mark (at n q) (f.removed q l ∙ h))))
      (λ q h.
      let l : q < length s = needs_known (length s) s r known q h in
      rest_has removed q (omega (arith, l, long)) ∙ ap not (agrees q false (out_mark (at n q) (f.left q l ∙ h))))

  -- and a full marking under which it fails the rule has these marks
  pub failing_below : (m : List Mark) → Whole (length s) m → (Meets s (rest (row_of m)) r → ⊥) → Below n m
  failing_below m whole fails q x e = by_mark x e
    where
      inside : q < length s
      inside = omega (arith, marked_inside n q x e, f.long)

      by_mark : (x : Bool) → at n q ≡ marked x → at m q ≡ marked x
      by_mark true e = row_marked m (length s) whole q true inside (same_value (has (row_of m) q) true (λ g.
          fails (head_meets s (rest (row_of m)) r q (sym (f.removed q inside) ∙ ap is_in e) (rest_has (row_of m) q (omega (arith, inside, whole.long, length-map m is_in)) ∙ ap not g))))
      by_mark false e = row_marked m (length s) whole q false inside (same_value (has (row_of m) q) false (λ g.
          fails (lack_meets s (rest (row_of m)) r q (sym (f.left q inside) ∙ ap is_out e) (rest_lacks (row_of m) q g))))

-- of the rules of a table
module _ (p : Parts) (i : ℕ) where
  abbrev s : List Bool
  s = row_of p.row.now

  abbrev rule : Rule
  rule = nth_rule p.rules.now.table.now i

  known : (n : ℕ) → n ≡ (program_of p.rules.now.table.now).statements → Known n rule
  known n e = subst (λ k. Known k rule) (sym e) (nth_known p.rules.now.table.now.bytes.now i)

  -- no smaller part agrees with the marks of a rule that is kept
  pub kept_nogood : i < length (rules_of p.rules.now.table.now) → keeps p.reduct.now.kept i ≡ true → (n : List Mark) → FailingMarks s rule n → Nogood (SmallerBy p) n
  kept_nogood l k n f removed h agrees =
      let long : length removed ≡ length s = sym (length-map removed not) ∙ h.smaller.part.long in
      agreeing_fails s rule (known (length s) (sym long ∙ h.long)) n f removed long agrees (h.smaller.meets i l k)

  -- and what is left fails it where the marks of what is removed have these
  pub fails_told : (m : List Mark) → Whole (program_of p.rules.now.table.now).statements m → length m ≡ length p.row.now → keeps p.reduct.now.kept i ≡ true → (n : List Mark) → FailingMarks s rule n → (found : Bool) → (IsTrue found ↔ Below n m) → (IsTrue found ↔ FailsBy p m i)
  fails_told m whole same k n f found told =
      let long : length s ≡ length m = length-map p.row.now is_in ∙ sym same in
      let each = known (length s) (long ∙ whole.long) in (
        (λ e. (k, agreeing_fails s rule each n f (row_of m) (length-map m is_in ∙ sym long) (λ q x a. (row_extends m).agrees q x (told.0 e q x a)))),
        λ fails. told.1 (failing_below s rule each n f m (record { full = whole.full; long = sym long }) fails.1),
      )

-- whether a kept rule is failed, rule by rule
pub meets_decided : (rules : List Rule) (kept s t : List Bool) (found : Bool) → (found ≡ true → (i : ℕ) × (i < length rules) × Fails rules kept s t i) → (found ≡ false → (i : ℕ) → i < length rules → Fails rules kept s t i → ⊥) → (IsTrue (not found) ↔ MeetsAll rules kept s t)
meets_decided rules kept s t found y n = (all, none)
  where
    all : not found ≡ true → MeetsAll rules kept s t
    all e i l k met =
        let head = list_any (has t) (get_or rules i no_rule).head in
        ⊎_elim (λ h. h) (λ f. absurd (n (not-true found e) i l (k, λ m. both_ways head f (m met)))) (cases_Bool head)

    none : MeetsAll rules kept s t → not found ≡ true
    none h = ⊎_elim (λ e. let (i, l, f) = y e in absurd (f.1 (h i l f.0))) (not_from_false found) (cases_Bool found)
