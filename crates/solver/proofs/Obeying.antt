-- What it is for a part of a row to obey against it.
use Rattle.std.proofs.Common.{◌≡◌, ℕ, ◌<◌, Bool, true, false, not, ◌&&◌, List, length, get_or, ⊎_elim, subst}
use Rattle.std.proofs.lemmas.Bool.{and_parts, both_ways, cases_Bool, not_from_false, or_left, or_right}
use Rattle.semantics.proofs.AnswerSets.{head_of_obeyed, needs_of_itself}
use Rattle.semantics.proofs.Lists.{all_at, all_from, among_at, among_place}
use Rattle.semantics.specs.AnswerSets.{BodyTrue, counts, needs_met, obeys, obeys_rule}
use Rattle.semantics.specs.Families.{Values}
use Rattle.semantics.specs.Programs.{Rule}
use Rattle.semantics.specs.Rows.{Part, has}
use Rattle.solver.specs.Smaller.{Meets}
use Rattle.std.specs.List.{list_any}
use Rattle.table.specs.View.{no_rule}

-- a part of s obeys a rule against s exactly when it meets it, if the rule's body is true in s, and always if it is not
module _ (value : Values) (s t : List Bool) (p : Part t s) (r : Rule) where
  pub obeyed_meets : obeys_rule value s t r ≡ true → BodyTrue value s r → Meets s t r
  obeyed_meets o b met = head_of_obeyed value s t r o b.counted met

  pub meets_obeyed : (BodyTrue value s r → Meets s t r) → obeys_rule value s t r ≡ true
  meets_obeyed h =
      let binds = counts value s r && needs_met s t r in
      ⊎_elim
      (λ b. let both = and_parts (counts value s r) (needs_met s t r) b in
      or_right (not binds) (list_any (has t) r.head)
      (h (record { counted = both.0; positives = all_from (has s) r.positive (λ q i. p q (all_at (has t) r.positive q (and_parts _ _ both.1).0 i)) }) both.1))
      (λ f. or_left (not binds) (list_any (has t) r.head) (not_from_false binds f))
      (cases_Bool binds)

-- a row obeys itself where it has a head statement of every rule with a true body
module _ (value : Values) (rules : List Rule) (s : List Bool) where
  abbrev pub HeadsBefore : ℕ → Type 0
  HeadsBefore n = (i : ℕ) → i < n → BodyTrue value s (get_or rules i no_rule) → list_any (has s) (get_or rules i no_rule).head ≡ true

  pub obeys_itself : HeadsBefore (length rules) → obeys value s s rules ≡ true
  obeys_itself h = all_from (obeys_rule value s s) rules (λ r i.
      let at = among_place rules r i in
      meets_obeyed value s s (λ q k. k) r (subst (λ o. BodyTrue value s o → Meets s s o) (at.2 no_rule) (λ b met. h at.0 at.1 b)))

  -- and does not where it lacks that of one
  pub disobeys_itself : (i : ℕ) → i < length rules → BodyTrue value s (get_or rules i no_rule) → list_any (has s) (get_or rules i no_rule).head ≡ false → obeys value s s rules ≡ false
  disobeys_itself i l b f =
      let r = get_or rules i no_rule in
      ⊎_elim
      (λ o. absurd (both_ways (list_any (has s) r.head) f
      (obeyed_meets value s s (λ q k. k) r (all_at (obeys_rule value s s) rules r o (among_at rules i no_rule l)) b (needs_of_itself s r b.positives))))
      (λ e. e)
      (cases_Bool (obeys value s s rules))
