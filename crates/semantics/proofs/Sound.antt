-- What a step wants holds in every answer set that agrees with the marking.
use Rattle.std.proofs.Common.{◌≡◌, ℕ, Bool, true, false, not, List, ℤ, Some, None, Option, sym, refl, ap, ◌∙◌, subst, inl, inr, ⊎_elim}
use lib.Signed.{≤ℤ_refl}
use Rattle.std.proofs.lemmas.Bool.{both_ways, not-true, and_parts, and_from, not_from_false}
use Rattle.semantics.specs.declared.Mark.{Mark}
use Rattle.semantics.specs.declared.Mark.TheVariants.{In}
use Rattle.semantics.specs.AnswerSets.{weights, passes, true_in, obeys_rule, AnswerSet, Supports}
use Rattle.semantics.specs.Families.{Values}
use Rattle.semantics.specs.Lists.{Among, Nth}
use Rattle.std.specs.List.{list_all}
use Rattle.semantics.specs.Markings.{at, Agrees, Attained, Between, Certain, Impossible, literals, BodyCertain, Refuted, HeadOut, Broken, OneLeft, Forces, fires, explains, chooses, blocks, unsupported}
use Rattle.semantics.specs.Programs.{Aggregate, Rule, Program}
use Rattle.semantics.specs.Rows.{has}
use Rattle.semantics.proofs.AnswerSets.{head_of_obeyed, needs_of_itself, supported}
use Rattle.semantics.proofs.Lists.{all_at, all_from, any_one, among_nth, nth_same}
use Rattle.semantics.proofs.Marks.{not_itself, other_value}
use Rattle.semantics.proofs.Monotone.{bag_of_row}

-- a true body, literal by literal and aggregate by aggregate
record Holds (value : Values) (s : List Bool) (r : Rule) : Type 0 where
  literal : (q : ℕ) (x : Bool) → Among q (literals r x) → has s q ≡ x
  aggregate : (g : Aggregate) → Among g r.aggregates → true_in value s g ≡ true

support_holds : (value : Values) (s : List Bool) (p : ℕ) (r : Rule) → Supports value s p r → Holds value s r
support_holds value s p r u = record { literal = each; aggregate = λ g. all_at (true_in value s) r.aggregates g cs.1 }
  where
    cs : (list_all (λ p. not (has s p)) r.negative ≡ true) × (list_all (true_in value s) r.aggregates ≡ true)
    cs = and_parts _ _ u.body.counted

    each : (q : ℕ) (x : Bool) → Among q (literals r x) → has s q ≡ x
    each q true i = all_at (has s) r.positive q u.body.positives i
    each q false i = not-true (has s q) (all_at (λ p. not (has s p)) r.negative q cs.0 i)

head_of_holding : (value : Values) (p : Program) (s : List Bool) (r : Rule) → AnswerSet value p s → Among r p.rules → Holds value s r → (q : ℕ) × Among q r.head × (has s q ≡ true)
head_of_holding value p s r a i h =
    any_one (has s) r.head
    (head_of_obeyed value s s r (all_at (obeys_rule value s s) p.rules r a.obeyed i)
    (and_from _ _ (all_from _ r.negative (λ q j. not_from_false (has s q) (h.literal q false j))) (all_from (true_in value s) r.aggregates h.aggregate))
    (needs_of_itself s r (all_from (has s) r.positive (λ q j. h.literal q true j))))

module _ (value : Values) (m : List Mark) (s : List Bool) (ag : Agrees m s) where
  -- the value of an aggregate in s is one that the marking reaches
  module _ (g : Aggregate) where
    attained_in_row : (r : Option ℤ) → value g.kind (weights (has s) g.members) ≡ r → Attained value m g r
    attained_in_row r e = (weights (has s) g.members, bag_of_row m (has s) ag g.members, e)

    between_in_row : (z : ℤ) → value g.kind (weights (has s) g.members) ≡ Some z → Between value m g z
    between_in_row z e = (z, z, attained_in_row (Some z) e, attained_in_row (Some z) e, ≤ℤ_refl z, ≤ℤ_refl z)

  pub certain_true : (g : Aggregate) → Certain value m g → true_in value s g ≡ true
  certain_true g c = go _ refl
    where
      go : (o : Option ℤ) → value g.kind (weights (has s) g.members) ≡ o → true_in value s g ≡ true
      go None e = absurd (c.always (attained_in_row g None e))
      go (Some z) e = ap (passes g.relation g.bound) e ∙ c.within z (between_in_row g z e)

  pub impossible_false : (g : Aggregate) → Impossible value m g → true_in value s g ≡ false
  impossible_false g c = go _ refl
    where
      go : (o : Option ℤ) → value g.kind (weights (has s) g.members) ≡ o → true_in value s g ≡ false
      go None e = ap (passes g.relation g.bound) e
      go (Some z) e = ap (passes g.relation g.bound) e ∙ c z (between_in_row g z e)

  certain_holds : (r : Rule) → BodyCertain value m r → Holds value s r
  certain_holds r u = record { literal = λ q x i. ag q x (u.literal q x i); aggregate = λ g i. certain_true g (u.aggregate g i) }

  refuted_fails : (r : Rule) → Refuted value m r → Holds value s r → ⊥
  refuted_fails r (inl (q, x, i, e)) h = not_itself x (sym (h.literal q x i) ∙ ag q (not x) e)
  refuted_fails r (inr (g, i, e)) h = both_ways (true_in value s g) (impossible_false g e) (h.aggregate g i)

  module _ (p : Program) (a : AnswerSet value p s) where
    -- the rule that is left supports its statement
    one_left_supports : (q i : ℕ) (r : Rule) → at m q ≡ In → OneLeft value p.rules m q i r → Supports value s q r
    one_left_supports q i r e o =
        let u = supported s q (ag q true e) value p a in
        let k = among_nth p.rules u.0 u.1 in
        ⊎_elim
        (λ j. subst (Supports value s q) (nth_same p.rules i u.0 r (subst (λ z. Nth p.rules z u.0) j k.1) o.place) u.2)
        (λ f. absurd (refuted_fails u.0 f (support_holds value s q u.0 u.2)))
        (o.others k.0 u.0 k.1 u.2.heads)

    -- no body holds whose head is out
    head_out_fails : (r : Rule) → Among r p.rules → HeadOut m r → Holds value s r → ⊥
    head_out_fails r i h k = let t = head_of_holding value p s r a i k in both_ways (has s t.0) (ag t.0 false (h t.0 t.1)) t.2

    pub forced_holds : {q : ℕ} {x : Bool} → Forces value p.rules m q x → has s q ≡ x
    forced_holds (fires r q i u j h) =
        let t = head_of_holding value p s r a i (certain_holds r u) in
        ⊎_elim (λ e. subst (λ z. has s z ≡ true) e t.2) (λ e. absurd (both_ways (has s t.0) (ag t.0 false e) t.2)) (h t.0 t.1)
    forced_holds (explains o i r q x e l k) = (support_holds value s o r (one_left_supports o i r e l)).literal q x k
    forced_holds (chooses o i r q e l k d) = other_value (has s q) true (λ t. d ((one_left_supports o i r e l).alone q k t))
    forced_holds (blocks r q x i h c) = other_value (has s q) x (λ t. head_out_fails r i h (record {
      literal = λ o y j. ⊎_elim (λ e. ap (has s) e.0 ∙ t ∙ sym e.1) (λ e. ag o y e) (c.literal o y j);
      aggregate = λ g j. certain_true g (c.aggregate g j);
    }))
    forced_holds (unsupported q h) = other_value (has s q) true (λ t. let u = supported s q t value p a in refuted_fails u.0 (h u.0 u.1 u.2.heads) (support_holds value s q u.0 u.2))

    pub not_broken : Broken value p.rules m → ⊥
    not_broken b = head_out_fails b.0 b.1 b.2 (certain_holds b.0 b.3)
