-- The drawing of a table of two rules, step by step, and its text by computing.
use Rattle.std.proofs.Common.{◌≡◌, ℕ, zero, suc, ◌<◌, Bool, true, false, List, [], ◌∷◌, ◌++◌, length, ℤ, pos, ◌≤ℤ◌, Some, None, codes, Option, replicate, sym, refl, ap, ap₂, ◌∙◌, subst, inl, inr, ⊎_elim, arith}
use Rattle.drawing.specs.Drawings.{Draws}
use Rattle.format.specs.Check.{accepted}
use Rattle.format.specs.Faults.{each}
use Rattle.inspection.specs.Example.{TwoRulesInspected}
use Rattle.inspection.specs.Inspection.{InspectedIf, KindsThenAnswers, Said, ShowsAccount, ShowsAnswers, ShowsDrawing, drawing_text}
use Rattle.kinds.specs.Lacking.{lacking}
use Rattle.marking.specs.declared.marking.Marking.{Marking}
use Rattle.notation.proofs.Worked.{worked}
use Rattle.notation.specs.Accounts.{account_text, found_text}
use Rattle.notation.specs.Marks.{marks_text}
use Rattle.notation.specs.Shown.{shown}
use Rattle.semantics.proofs.Drawing.{steps_sound}
use Rattle.semantics.proofs.Families.{none_some, same_some}
use Rattle.semantics.proofs.Marks.{marked_once, open_unmarked}
use Rattle.semantics.proofs.SmallTables.{small_tables}
use Rattle.semantics.proofs.Order.{order}
use Rattle.semantics.specs.AnswerSets.{Earliest}
use Rattle.semantics.specs.Families.{Values, house}
use Rattle.semantics.specs.FullMarkings.{row_of}
use Rattle.semantics.specs.Lists.{Among}
use Rattle.semantics.specs.Markings.{Agrees, Attained, Bag, Certain, Drawn, OthersOut, Step, at, fires, here, literals, marked, noted, then}
use Rattle.semantics.specs.Programs.{Aggregate, Program, Rule}
use Rattle.semantics.specs.Rows.{Precedes}
use Rattle.semantics.specs.SmallTables.{◌weighs◌, a, b, count, fact, over, rule, table_6}
use Rattle.semantics.specs.declared.Finding.{Finding}
use Rattle.semantics.specs.declared.Mark.{Mark}
use Rattle.semantics.specs.declared.Relation.TheVariants.{More}
use Rattle.semantics.specs.declared.Mark.TheVariants.{Open, In, Out}
use Rattle.solver.specs.Accounts.{SeeksFor, marks_of}
use Rattle.solver.specs.declared.account.Account.{Account as FoundAccount}
use Rattle.std.specs.Fmt.{digits}
use Rattle.std.proofs.lemmas.Int.{ints}
use Rattle.std.proofs.lemmas.Bool.{false≢true}
use Rattle.table.proofs.Example.{example}
use Rattle.table.specs.Contents.{aggregates_held, contents, literals_held, members_held, names_held, rules_held}
use Rattle.table.specs.TwoRules.{two_rules}
use lib.Signed.{lt_z}

abbrev one_in : List Mark
one_in = In ∷ Open ∷ []

abbrev both_in : List Mark
both_in = In ∷ In ∷ []

abbrev of_a : Aggregate
of_a = over count (a weighs pos 1 ∷ []) More (pos 0)

abbrev second_rule : Rule
second_rule = rule (b ∷ []) [] (of_a ∷ [])

only_head : (m : List Mark) (p : ℕ) (gs : List Aggregate) → OthersOut m (rule (p ∷ []) [] gs) p
only_head m p gs q i = ⊎_elim (λ e. inl (sym e)) (λ k. absurd k) i

no_literals : (m : List Mark) (p : ℕ) (gs : List Aggregate) (q : ℕ) (x : Bool) → Among q (literals (rule (p ∷ []) [] gs) x) → at m q ≡ marked x
no_literals m p gs q true i = absurd i
no_literals m p gs q false i = absurd i

-- the first rule is a fact
first_step : Step house table_6.rules (noted table_6 []) one_in
first_step = record {
  statement = a;
  becomes = true;
  inside = omega arith;
  was_open = refl;
  forced = fires (fact a) a (inl refl) (record { literal = no_literals (noted table_6 []) a []; aggregate = λ g i. absurd i }) (inl refl) (only_head (noted table_6 []) a []);
  next = refl;
}

-- its statement is in, so every bag of the second rule's aggregate has one weight
one_weight : (v : List ℤ) → Bag one_in of_a.members v → length v ≡ 1
one_weight v (true, u, al, e, f) = ap length f ∙ ap (λ w. length (pos 1 ∷ w)) e
one_weight v (false, u, al, e, f) = absurd (false≢true (al true refl))

counts_one : (z : ℤ) → Attained house one_in of_a (Some z) → z ≡ pos 1
counts_one z (v, bag, e) = sym (same_some e) ∙ ap pos (one_weight v bag)

above_zero : (l h z : ℤ) → l ≡ pos 1 → h ≡ pos 1 → l ≤ℤ z → z ≤ℤ h → lt_z (pos 0) z ≡ true
above_zero l h z e f p q = let g : z ≡ pos 1 = omega (arith, ints, e, f, p, q) in rw g refl

certain_count : Certain house one_in of_a
certain_count = record {
  number = (pos 1, (pos 1 ∷ [], (true, [], (λ x. marked_once true x refl), refl, refl), refl));
  always = λ (v, bag, e). none_some (sym e);
  within = λ z (l, h, p, q, lo, hi). above_zero l h z (counts_one l p) (counts_one h q) lo hi;
}

second_step : Step house table_6.rules one_in both_in
second_step = record {
  statement = b;
  becomes = true;
  inside = omega arith;
  was_open = refl;
  forced = fires second_rule b (inr (inl refl)) (record { literal = no_literals one_in b (of_a ∷ []); aggregate = λ g i. ⊎_elim (λ e. subst (Certain house one_in) e certain_count) (λ k. absurd k) i }) (inl refl) (only_head one_in b (of_a ∷ []));
  next = refl;
}

-- the account {a, b} agrees with both marks, so nothing is wanted against them
agrees_both : Agrees both_in (true ∷ true ∷ [])
agrees_both zero x e = marked_once true x refl e
agrees_both (suc zero) x e = marked_once true x refl e
agrees_both (suc (suc q)) x e = absurd (open_unmarked x e)

none_open : (q : ℕ) → q < 2 → at both_in q ≡ Open → ⊥
none_open zero l e = open_unmarked true (sym e)
none_open (suc zero) l e = open_unmarked true (sym e)
none_open (suc (suc q)) l e = omega arith

both_drawn : Drawn house table_6.rules (noted table_6 []) both_in
both_drawn =
    let account = small_tables.other_member.account.answer in
    let sound = steps_sound both_in (true ∷ true ∷ []) agrees_both in
    record {
      reached = then one_in both_in (then (noted table_6 []) one_in here first_step) second_step;
      settled = record {
        whole = sound.unbroken house table_6 account;
        done = λ q x l e f. none_open q l e;
        agreed = λ q x e f. sound.unopposed house table_6 account q x f e;
      };
    }

abbrev drawn_text : List ℕ
drawn_text = codes "in a\nin b\n"

-- a drawing of these rules is this one
text_of_drawing : (d : Option Marking) → Draws house table_6 [] d → drawing_text (codes "a" ∷ codes "b" ∷ []) d ≡ drawn_text
text_of_drawing (Some m) h = ap (marks_text (codes "a" ∷ codes "b" ∷ [])) (sym (h.only both_in both_drawn)) ∙ refl
text_of_drawing None h = absurd (h both_in both_drawn)

-- no kind is lacking
pub none_lacking : lacking 4 two_rules ≡ []
unfolding accepted each aggregates_held contents literals_held members_held names_held rules_held
none_lacking = refl

abbrev pub accounted_text : List ℕ
accounted_text = codes "account 2\nin a\nin b\n"

-- the earliest account is one: of two each would come before the other
earliest_once : (value : Values) (p : Program) (f : List Finding) (s t : List Bool) → Earliest value p f s → Earliest value p f t → s ≡ t
earliest_once value p f s t e g =
    ⊎_elim
    (λ i. i)
    (λ i. ⊎_elim
    (λ (l : Precedes s t). absurd (order.irreflexive s (order.transitive s t s l (g.others s e.account (λ k. order.irreflexive t (subst (λ x. Precedes x t) k l))))))
    (λ (l : Precedes t s). absurd (order.irreflexive t (order.transitive t s t l (e.others t g.account (λ k. order.irreflexive s (subst (λ x. Precedes x s) k l))))))
    i)
    (order.total s t (e.account.answer.long ∙ sym g.account.answer.long))

-- marks whose row has all statements are all in
all_in : (m : List Mark) (n : ℕ) → row_of m ≡ replicate n true → m ≡ replicate n In
all_in [] zero e = refl
all_in [] (suc n) e = let w : ◌≡◌ {A = ℕ} 0 1 = cc in absurd (omega arith)
all_in (v ∷ m) zero e = let w : ◌≡◌ {A = ℕ} 0 1 = cc in absurd (omega arith)
all_in (Open ∷ m) (suc n) e = absurd (false≢true cc)
all_in (Out ∷ m) (suc n) e = absurd (false≢true cc)
all_in (In ∷ m) (suc n) e = let r : row_of m ≡ replicate n true = cc in ap (λ k. In ∷ k) (all_in m n r)

-- the account of these rules has both statements
text_of_account : (r : Option FoundAccount) → SeeksFor house table_6 [] r → account_text (codes "a" ∷ codes "b" ∷ []) (marks_of r) ≡ accounted_text
unfolding digits
text_of_account (Some found) h =
    ap (found_text (codes "a" ∷ codes "b" ∷ [])) (all_in found.marks 2 (earliest_once house table_6 [] (row_of found.marks) (true ∷ true ∷ []) h.earliest small_tables.other_member)) ∙ refl
text_of_account None h = absurd (h (true ∷ true ∷ []) small_tables.other_member.account)

-- so the text of the earliest account is this one
pub accounted : (out : List ℕ) → ShowsAccount two_rules out → out ≡ accounted_text
accounted out d =
    let h : SeeksFor house table_6 [] d.account = subst (λ p. SeeksFor house p [] d.account) example.stands d.sought in
    d.shown ∙ ap (λ names. account_text names (marks_of d.account)) example.named ∙ text_of_account d.account h

said_text : (text : List ℕ) → Said two_rules text → text ≡ drawn_text ++ accounted_text
said_text text f =
    let g : ShowsAnswers two_rules text = subst (λ l. KindsThenAnswers l two_rules text) none_lacking f in
    g.4 ∙ ap₂ (λ (x y : List ℕ). x ++ y) (forced g.0 g.2) (accounted g.1 g.3)
  where
    forced : (out : List ℕ) → ShowsDrawing two_rules out → out ≡ drawn_text
    forced out d =
        let h : Draws house table_6 [] d.drawing = subst (λ p. Draws house p [] d.drawing) example.stands d.drawn in
        d.shown ∙ ap (λ names. drawing_text names d.drawing) example.named ∙ text_of_drawing d.drawing h

pub two_rules_inspected : TwoRulesInspected
two_rules_inspected out i =
    let j : InspectedIf true two_rules out = subst (λ ok. InspectedIf ok two_rules out) example.passes i in
    j.2 ∙ ap (λ text. shown two_rules ++ text) (said_text j.0 j.1) ∙ ap (λ s. s ++ (drawn_text ++ accounted_text)) worked.two
