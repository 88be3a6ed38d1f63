-- The small tables, each by trial of all its rows, and what is drawn of two of them.
use Rattle.std.proofs.Common.{◌≡◌, ℕ, zero, suc, ◌<◌, Bool, true, false, not, List, [], ◌∷◌, pos, Some, sym, refl, ◌∙◌, subst, inl, inr, arith}
use lib.Signed.{≤ℤ_refl}
use Rattle.std.proofs.lemmas.Bool.{true≢false, false≢true}
use Rattle.semantics.specs.declared.Mark.{Mark}
use Rattle.semantics.specs.declared.Mark.TheVariants.{Open, In}
use Rattle.semantics.specs.declared.Relation.TheVariants.{Equal}
use Rattle.semantics.specs.Families.{Values, house}
use Rattle.semantics.specs.Lists.{Among}
use Rattle.semantics.specs.Markings.{at, marked, literals, Attained, Impossible, Refuted, HeadOut, Broken, Forces, fires, explains, chooses, blocks, unsupported, here, Settled, Clash}
use Rattle.semantics.specs.Programs.{Aggregate, Rule}
use Rattle.semantics.specs.SmallTables.{a, b, count, rule, over, ◌weighs◌, table_2, table_3, SmallTables}
use Rattle.semantics.proofs.Drawing.{reached_adds}
use Rattle.semantics.proofs.Enumeration.{account_by_trial, none_by_trial, in_every_by_trial, earliest_by_trial, sole_by_trial}
use Rattle.semantics.proofs.Lists.{nth_among}
use Rattle.semantics.proofs.Marks.{open_unmarked, marked_once}
use Rattle.semantics.proofs.Monotone.{broken_stays}

-- what is among one thing alone is that thing
of_one : {X : Type 0} (P : X → Type 0) (x y : X) → P x → Among y (x ∷ []) → P y
of_one P x y h (inl e) = subst P e h
of_one P x y h (inr n) = absurd n

no_literals : (head : List ℕ) (aggregates : List Aggregate) (q : ℕ) (x : Bool) → Among q (literals (rule head [] aggregates) x) → ⊥
no_literals head aggregates q true i = i
no_literals head aggregates q false i = i

-- what is broken at the start stays so, and is never settled
broken_clashes : (value : Values) (rules : List Rule) (start : List Mark) → Broken value rules start → Clash value rules start
broken_clashes value rules start h m d = d.settled.whole (broken_stays value start m (reached_adds value rules start d.reached) rules h)

nothing_broken : Broken house table_2.rules []
nothing_broken = (rule [] [] [], inl refl, (λ q i. absurd i), record { literal = λ q x i. absurd (no_literals [] [] q x i); aggregate = λ g i. absurd i })

-- With a marked in, the count of a is 1, so the rule of table 3 is not refuted, and nothing wants a out.
abbrev a_in : List Mark
a_in = In ∷ []

abbrev own_aggregate : Aggregate
own_aggregate = over count (a weighs pos 1 ∷ []) Equal (pos 1)

abbrev own_rule : Rule
own_rule = rule (a ∷ []) [] (own_aggregate ∷ [])

only_a_in : (q : ℕ) (x : Bool) → at a_in q ≡ marked x → (q ≡ a) × (x ≡ true)
only_a_in zero x e = (refl, marked_once x true e refl)
only_a_in (suc q) x e = absurd (open_unmarked x e)

none_open : (q : ℕ) → q < 1 → at a_in q ≡ Open → ⊥
none_open zero l e = open_unmarked true (sym e)
none_open (suc q) l e = absurd (omega arith)

own_count_possible : Impossible house a_in own_aggregate → ⊥
own_count_possible h = true≢false (h (pos 1) (pos 1, pos 1, one, one, ≤ℤ_refl (pos 1), ≤ℤ_refl (pos 1)))
  where
    one : Attained house a_in own_aggregate (Some (pos 1))
    one = (pos 1 ∷ [], (true, [], (λ x. marked_once true x refl), refl, refl), refl)

own_rule_stands : Refuted house a_in own_rule → ⊥
own_rule_stands (inl (q, x, i, e)) = no_literals (a ∷ []) (own_aggregate ∷ []) q x i
own_rule_stands (inr (g, i, h)) = of_one (λ z. Impossible house a_in z → ⊥) own_aggregate g own_count_possible i h

own_head_in : (r : Rule) → Among r (own_rule ∷ []) → HeadOut a_in r → ⊥
own_head_in r = of_one (λ z. HeadOut a_in z → ⊥) own_rule r (λ h. false≢true (only_a_in a false (h a (inl refl))).1)

unopposed : {q : ℕ} {x : Bool} → Forces house (own_rule ∷ []) a_in q x → at a_in q ≡ marked (not x) → ⊥
unopposed (fires r p i s j h) e = false≢true (only_a_in p false e).1
unopposed (explains p i r q x f o k) e =
    of_one (λ z. Among q (literals z x) → ⊥) own_rule r (no_literals (a ∷ []) (own_aggregate ∷ []) q x) (nth_among (own_rule ∷ []) i r o.place) k
unopposed (chooses p i r q f o k d) e = d ((only_a_in q true e).0 ∙ sym (only_a_in p true f).0)
unopposed (blocks r q x i h k) e = own_head_in r i h
unopposed (unsupported p h) e = own_rule_stands (h own_rule (inl refl) (inl (sym (only_a_in p true e).0)))

own_count_settled : Settled house table_3.rules a_in
own_count_settled = record {
  whole = λ h. own_head_in h.0 h.1 h.2;
  done = λ q x l e _. none_open q l e;
  agreed = λ q x e f. unopposed f e;
}

-- Each `refl` computes: of a row its length and that it is an account, and of all rows that every account is as said.
pub small_tables : SmallTables
small_tables = record {
  no_rules = sole_by_trial refl refl refl;
  nothing = none_by_trial refl;
  nothing_clashes = broken_clashes house table_2.rules [] nothing_broken;
  own_count = sole_by_trial refl refl refl;
  own_count_in = none_by_trial refl;
  own_count_settles = record { reached = here; settled = own_count_settled };
  own_lack = none_by_trial refl;
  own_member = none_by_trial refl;
  other_member = earliest_by_trial refl refl refl;
  other_member_every = in_every_by_trial b refl;
  either = earliest_by_trial refl refl refl;
  either_out = earliest_by_trial refl refl refl;
  either_both = none_by_trial refl;
  either_some = record {
    with_it = (true ∷ false ∷ [], account_by_trial refl refl, refl);
    without_it = (false ∷ true ∷ [], account_by_trial refl refl, refl);
  };
  either_looped = earliest_by_trial refl refl refl;
  looped = earliest_by_trial refl refl refl;
  looped_in = none_by_trial refl;
  greatest_of_none = earliest_by_trial refl refl refl;
  sum_of_none = earliest_by_trial refl refl refl;
  sum_of_two = earliest_by_trial refl refl refl;
  spread_of_two = earliest_by_trial refl refl refl;
}
