-- From literals and aggregates to the body.
use Rattle.std.proofs.Common.{◌≡◌, ℕ, ◌-◌, ◌≤◌, Bool, true, false, not, ◌⊎◌, List, [], ◌∷◌, length, get_or, sym, refl, ap, ◌∙◌, subst, inl, inr, ⊎_elim}
use Rattle.family.specs.Readings.{Judges}
use Rattle.family.specs.declared.reading.Verdict.{Verdict}
use Rattle.family.specs.declared.reading.Verdict.TheVariants.{Certain as Sure, Impossible as Never, Neither as Unknown}
use Rattle.judging.specs.Bodies.{AllCertain, BodyIs, SomeImpossible, body_literals, body_of, both}
use Rattle.judging.specs.Literals.{IsMet, IsOpen, LiteralsAre, TwoOpen, as_literals}
use Rattle.judging.specs.declared.literals.Literal.{Literal}
use Rattle.judging.specs.declared.literals.Literals.{Literals}
use Rattle.judging.specs.declared.literals.Literals.TheVariants.{Met, OneOpen, SeveralOpen, Against}
use Rattle.semantics.proofs.Lists.{among_either, among_left, among_right}
use Rattle.semantics.proofs.Marks.{both_marked, open_unmarked}
use Rattle.semantics.specs.Families.{Values}
use Rattle.semantics.specs.Lists.{Among}
use Rattle.semantics.specs.Markings.{BodyCertain, Certain, CertainButFor, Impossible, Refuted, literals}
use Rattle.semantics.specs.Programs.{Aggregate, Rule}
use Rattle.semantics.specs.declared.Mark.{Mark}
use Rattle.table.proofs.Tails.{tail, tail_more}
use Rattle.table.specs.View.{no_aggregate}

-- one aggregate more
module _ (value : Values) (m : List Mark) (g : Aggregate) (gs : List Aggregate) where
  all_more : Certain value m g → AllCertain value m gs → AllCertain value m (g ∷ gs)
  all_more c h a (inl e) = subst (Certain value m) e c
  all_more c h a (inr i) = h a i

  some_more : (Impossible value m g → ⊥) → (SomeImpossible value m gs → ⊥) → SomeImpossible value m (g ∷ gs) → ⊥
  some_more n h (a, inl e, i) = n (subst (Impossible value m) (sym e) i)
  some_more n h (a, inr k, i) = h (a, k, i)

  -- an impossible one among the others is enough
  pub impossible_stays : Judges Never (AllCertain value m gs) (SomeImpossible value m gs) → Judges Never (AllCertain value m (g ∷ gs)) (SomeImpossible value m (g ∷ gs))
  impossible_stays ((a, i, h), n) = ((a, inr i, h), λ c. n (λ b j. c b (inr j)))

  impossible_new : Judges Never (Certain value m g) (Impossible value m g) → Judges Never (AllCertain value m (g ∷ gs)) (SomeImpossible value m (g ∷ gs))
  impossible_new (i, n) = ((g, inl refl, i), λ c. n (c g (inl refl)))

  pub judges_both : (v w : Verdict) → Judges v (AllCertain value m gs) (SomeImpossible value m gs) → Judges w (Certain value m g) (Impossible value m g) → Judges (both v w) (AllCertain value m (g ∷ gs)) (SomeImpossible value m (g ∷ gs))
  judges_both Sure Sure (a, n) (c, k) = (all_more c a, some_more k n)
  judges_both Sure Never h k = impossible_new k
  judges_both Sure Unknown (a, n) (c, k) = ((λ h. c (h g (inl refl))), some_more k n)
  judges_both Never w h k = impossible_stays h
  judges_both Unknown Sure (a, n) (c, k) = ((λ h. a (λ b j. h b (inr j))), some_more k n)
  judges_both Unknown Never h k = impossible_new k
  judges_both Unknown Unknown (a, n) (c, k) = ((λ h. c (h g (inl refl))), some_more k n)

-- the verdict from place k - 1 on, from that from place k on
module _ (value : Values) (m : List Mark) (all : List Aggregate) (end k : ℕ) (p : 1 ≤ k) (l : k ≤ end) (i : end ≤ length all) where
  abbrev JudgesFrom : ℕ → Verdict → Type 0
  JudgesFrom j v = Judges v (AllCertain value m (tail all end j)) (SomeImpossible value m (tail all end j))

  next : tail all end (k - 1) ≡ get_or all (k - 1) no_aggregate ∷ tail all end k
  next = tail_more all end k no_aggregate p l i

  pub judges_before : (v w r : Verdict) → r ≡ both v w → JudgesFrom k v → Judges w (Certain value m (get_or all (k - 1) no_aggregate)) (Impossible value m (get_or all (k - 1) no_aggregate)) → JudgesFrom (k - 1) r
  judges_before v w r e h g = rw (next, e) (judges_both value m _ _ v w h g)

  pub impossible_before : (v : Verdict) → v ≡ Never → JudgesFrom k v → JudgesFrom (k - 1) v
  impossible_before v e h = rw (next, e) (impossible_stays value m _ _ (rw e at h))

-- a body's literals are its positive and its negative statements
abbrev lit : ℕ → Bool → Literal
lit q x = record { statement = q; present = x }

pub as_literal : (x : Bool) (q : ℕ) (qs : List ℕ) → Among q qs → Among (lit q x) (as_literals x qs)
as_literal x q [] i = absurd i
as_literal x q (p ∷ qs) (inl e) = inl (ap (λ z. lit z x) e)
as_literal x q (p ∷ qs) (inr i) = inr (as_literal x q qs i)

pub of_literal : (x : Bool) (l : Literal) (qs : List ℕ) → Among l (as_literals x qs) → (l.present ≡ x) × Among l.statement qs
of_literal x l [] i = absurd i
of_literal x l (p ∷ qs) (inl e) = (ap (λ z. z.present) (sym e), inl (ap (λ z. z.statement) e))
of_literal x l (p ∷ qs) (inr i) = let r = of_literal x l qs i in (r.0, inr r.1)

in_body : (r : Rule) (q : ℕ) (x : Bool) → Among q (literals r x) → Among (lit q x) (body_literals r)
in_body r q true i = among_left _ _ _ (as_literal true q r.positive i)
in_body r q false i = among_right (as_literals true r.positive) _ _ (as_literal false q r.negative i)

of_body : (r : Rule) (l : Literal) → Among l (body_literals r) → Among l.statement (literals r l.present)
of_body r l i =
    ⊎_elim
    (λ j. let e = of_literal true l r.positive j in subst (λ x. Among l.statement (literals r x)) (sym e.0) e.1)
    (λ j. let e = of_literal false l r.negative j in subst (λ x. Among l.statement (literals r x)) (sym e.0) e.1)
    (among_either (as_literals true r.positive) (as_literals false r.negative) l i)

module _ (value : Values) (m : List Mark) (r : Rule) where
  abbrev Allowed : Type 0
  Allowed = (l : Literal) → Among l (body_literals r) → IsOpen m l ⊎ IsMet m l

  -- with no literal against its mark and no aggregate impossible, the body is not refuted
  standing : Allowed → (SomeImpossible value m r.aggregates → ⊥) → Refuted value m r → ⊥
  standing h n (inl (q, x, i, e)) = ⊎_elim (λ o. open_unmarked (not x) (sym o ∙ e)) (λ t. both_marked x t e) (h (lit q x) (in_body r q x i))
  standing h n (inr (g, i, e)) = n (g, i, e)

  one_allowed : (o : Literal) → IsOpen m o → ((l : Literal) → Among l (body_literals r) → (l ≡ o) ⊎ IsMet m l) → Allowed
  one_allowed o e h l i = ⊎_elim (λ k. inl (subst (IsOpen m) (sym k) e)) inr (h l i)

  several_uncertain : TwoOpen m (body_literals r) → BodyCertain value m r → ⊥
  several_uncertain t c = open_unmarked _ (sym t.one_open ∙ c.literal _ _ (of_body r t.one t.one_among))

  -- the one literal that a body may be certain but for is any open one
  the_open_one : (q : ℕ) (x : Bool) → CertainButFor value m r q x → (l : Literal) → Among l (body_literals r) → IsOpen m l → l ≡ lit q x
  the_open_one q x c l i o = ⊎_elim (λ e. same l e) (λ e. absurd (open_unmarked _ (sym o ∙ e))) (c.literal l.statement l.present (of_body r l i))
    where
      same : (l : Literal) → (l.statement ≡ q) × (l.present ≡ x) → l ≡ lit q x
      same l (e, f) = ap (λ z. lit z l.present) e ∙ ap (lit q) f

  several_but_for : TwoOpen m (body_literals r) → (q : ℕ) (x : Bool) → CertainButFor value m r q x → ⊥
  several_but_for t q x c = t.differ (the_open_one q x c t.one t.one_among t.one_open ∙ sym (the_open_one q x c t.other t.other_among t.other_open))

  pub against_refuted : LiteralsAre m (body_literals r) Against → Refuted value m r
  against_refuted (l, i, e) = inl (l.statement, l.present, of_body r l i, e)

  body_met : LiteralsAre m (body_literals r) Met → AllCertain value m r.aggregates → BodyCertain value m r
  body_met h a = record { literal = λ q x i. h (lit q x) (in_body r q x i); aggregate = a }

  body_but_for : (o : Literal) → LiteralsAre m (body_literals r) (OneOpen o) → AllCertain value m r.aggregates → CertainButFor value m r o.statement o.present
  body_but_for o (i, e, h) a = record {
    one = of_body r o i;
    literal = λ q x j. ⊎_elim (λ k. inl (ap (λ z. z.statement) k, ap (λ z. z.present) k)) inr (h (lit q x) (in_body r q x j));
    aggregate = a;
  }

  neither : Allowed → (SomeImpossible value m r.aggregates → ⊥) → (AllCertain value m r.aggregates → ⊥) → BodyIs value m r (body_of SeveralOpen Unknown)
  neither h n a = record { standing = standing h n; uncertain = λ c. a c.aggregate; but_for_none = λ q x c e. a c.aggregate }

  pub body_is : (s : Literals) (v : Verdict) → LiteralsAre m (body_literals r) s → Judges v (AllCertain value m r.aggregates) (SomeImpossible value m r.aggregates) → BodyIs value m r (body_of s v)
  body_is Met Sure h (a, n) = (body_met h a, standing (λ l i. inr (h l i)) n)
  body_is Met Never h (i, n) = inr i
  body_is Met Unknown h (a, n) = neither (λ l i. inr (h l i)) n a
  body_is (OneOpen o) Sure h (a, n) = (body_but_for o h a, h.1, standing (one_allowed o h.1 h.2) n)
  body_is (OneOpen o) Never h (i, n) = inr i
  body_is (OneOpen o) Unknown h (a, n) = neither (one_allowed o h.1 h.2) n a
  body_is SeveralOpen Sure t (a, n) = record { standing = standing t.rest n; uncertain = several_uncertain t; but_for_none = λ q x c e. several_but_for t q x c }
  body_is SeveralOpen Never t (i, n) = inr i
  body_is SeveralOpen Unknown t (a, n) = neither t.rest n a
  body_is Against v h k = against_refuted h
