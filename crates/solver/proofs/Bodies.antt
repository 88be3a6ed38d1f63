-- Under a full marking, what is said of a rule is what its row makes of it.
use Rattle.std.proofs.Common.{◌≡◌, ℕ, ◌<◌, Bool, true, false, not, List, [], ◌∷◌, length, get_or, ℤ, ◌≤ℤ◌, Some, None, Option, sym, refl, ap, ◌∙◌, subst, inl, inr, ⊎_elim, arith, cond}
use Rattle.std.proofs.lemmas.List.{get_or_past}
use Rattle.std.proofs.lemmas.Bool.{and_parts, and_from, cases_lt, not-true, not_from_false, false≢true}
use Rattle.std.proofs.lemmas.Int.{ints}
use Rattle.semantics.proofs.FullMarkings.{allowed_once, row_extends, row_has}
use Rattle.semantics.proofs.Lists.{all_at, all_from, among_at}
use Rattle.semantics.proofs.Monotone.{bag_of_row}
use Rattle.semantics.proofs.Sound.{certain_true}
use Rattle.semantics.specs.AnswerSets.{BodyTrue, passes, true_in, weights}
use Rattle.semantics.specs.Families.{Values}
use Rattle.semantics.specs.FullMarkings.{is_in, row_of}
use Rattle.semantics.specs.Lists.{Among}
use Rattle.semantics.specs.Markings.{Agrees, Attained, Bag, Between, BodyCertain, Certain, at, literals, marked}
use Rattle.semantics.specs.Programs.{Aggregate, Rule, stands}
use Rattle.semantics.specs.Rows.{has}
use Rattle.semantics.specs.declared.Mark.{Mark}
use Rattle.semantics.specs.declared.Mark.TheVariants.{Open, In, Out}
use Rattle.semantics.specs.declared.Member.{Member}
use Rattle.solver.specs.Reducts.{Whole}
use Rattle.table.proofs.Limits.{Known, rules_known}
use Rattle.table.specs.Contents.{contents}
use Rattle.table.specs.View.{no_rule}

-- every rule of a table names its statements only; past the last, one with nothing in it does
pub nth_known : (b : List ℕ) (i : ℕ) → Known (length (contents b).names) (get_or (contents b).rules i no_rule)
nth_known b i =
    ⊎_elim
    (λ l. rules_known b (get_or (contents b).rules i no_rule) (among_at (contents b).rules i no_rule l))
    (λ l. subst (Known (length (contents b).names)) (sym (get_or_past (contents b).rules i no_rule l)) none)
    (cases_lt i (length (contents b).rules))
  where
    none : Known (length (contents b).names) no_rule
    none = record { head = λ q a. absurd a; positive = λ q a. absurd a; negative = λ q a. absurd a; members = λ g m a e. absurd a }

-- two numbers that are each at most the other
le_both : (a b : ℤ) → a ≤ℤ b → b ≤ℤ a → a ≡ b
le_both a b l g = omega (arith, ints, l, g)

module _ (m : List Mark) (n : ℕ) (whole : Whole n m) where
  -- the row agrees with its marking, and no statement of the program is open
  agrees : Agrees m (row_of m)
  agrees = (row_extends m).agrees

  not_open : (q : ℕ) → q < n → at m q ≡ Open → ⊥
  not_open q l = whole.full q (omega (arith, l, whole.long))

  -- the mark of a statement is what its row says
  mark_of : (v : Mark) → (v ≡ Open → ⊥) → v ≡ marked (is_in v)
  mark_of Open h = absurd (h refl)
  mark_of In h = refl
  mark_of Out h = refl

  pub row_marked : (q : ℕ) (x : Bool) → q < n → has (row_of m) q ≡ x → at m q ≡ marked x
  row_marked q x l e = mark_of (at m q) (not_open q l) ∙ ap marked (sym (row_has m q) ∙ e)

  -- the only bag that an aggregate can have is that of the row
  only_bag : (ms : List Member) → ((a : Member) → Among a ms → a.statement < n) → (v : List ℤ) → Bag m ms v → v ≡ weights (has (row_of m)) ms
  only_bag [] k v e = e
  only_bag (a ∷ ms) k v (b, u, al, bag, e) =
      let one : b ≡ has (row_of m) a.statement = allowed_once (at m a.statement) b (not_open a.statement (k a (inl refl))) al ∙ sym (row_has m a.statement) in
      let more : u ≡ weights (has (row_of m)) ms = only_bag ms (λ c i. k c (inr i)) u bag in
      e ∙ ap (λ x. cond x (a.weight ∷ u) u) one ∙ ap (λ w. cond (has (row_of m) a.statement) (a.weight ∷ w) w) more

  module _ (value : Values) (g : Aggregate) (known : (a : Member) → Among a g.members → a.statement < n) where
    -- and so the value of the row is the only one that it can come to
    only_value : (r : Option ℤ) → Attained value m g r → value g.kind (weights (has (row_of m)) g.members) ≡ r
    only_value r (v, bag, e) = ap (value g.kind) (sym (only_bag g.members known v bag)) ∙ e

    is_value : (r : Option ℤ) → value g.kind (weights (has (row_of m)) g.members) ≡ r → Attained value m g r
    is_value r e = (weights (has (row_of m)) g.members, bag_of_row m (has (row_of m)) agrees g.members, e)

    -- an aggregate that is true in the row is certain
    pub true_certain : true_in value (row_of m) g ≡ true → Certain value m g
    true_certain t = go (value g.kind (weights (has (row_of m)) g.members)) refl
      where
        go : (o : Option ℤ) → value g.kind (weights (has (row_of m)) g.members) ≡ o → Certain value m g
        go None e = absurd (false≢true (sym (ap (passes g.relation g.bound) e) ∙ t))
        go (Some z) e = record { number = (z, is_value (Some z) e); always = λ a. nothing (sym e ∙ only_value None a); within = λ y h. within y h }
          where
            nothing : Some z ≡ None → ⊥
            nothing i = let w : ◌≡◌ {A = ℕ} 0 1 = cc in omega arith

            number : (y : ℤ) → Attained value m g (Some y) → y ≡ z
            number y a = let i : Some y ≡ Some z = sym (only_value (Some y) a) ∙ e in cc

            within : (y : ℤ) → Between value m g y → stands g.relation y g.bound ≡ true
            within y (l, h, low, high, p, q) =
                let same : y ≡ z = le_both y z (rw (number h high) at q) (rw (number l low) at p) in
                ap (λ x. stands g.relation x g.bound) same ∙ sym (ap (passes g.relation g.bound) e) ∙ t

  module _ (value : Values) (r : Rule) (known : Known n r) where
    -- a true body, literal by literal and aggregate by aggregate
    literal_known : (q : ℕ) (x : Bool) → Among q (literals r x) → q < n
    literal_known q true i = known.positive q i
    literal_known q false i = known.negative q i

    true_literal : BodyTrue value (row_of m) r → (q : ℕ) (x : Bool) → Among q (literals r x) → has (row_of m) q ≡ x
    true_literal t q true i = all_at (has (row_of m)) r.positive q t.positives i
    true_literal t q false i = not-true (has (row_of m) q) (all_at (λ p. not (has (row_of m) p)) r.negative q (and_parts _ _ t.counted).0 i)

    true_aggregate : BodyTrue value (row_of m) r → (g : Aggregate) → Among g r.aggregates → true_in value (row_of m) g ≡ true
    true_aggregate t g i = all_at (true_in value (row_of m)) r.aggregates g (and_parts _ _ t.counted).1 i

    -- a body that is true in the row is certain
    body_certain : BodyTrue value (row_of m) r → BodyCertain value m r
    body_certain t = record {
      literal = λ q x i. row_marked q x (literal_known q x i) (true_literal t q x i);
      aggregate = λ g i. true_certain value g (λ a j. known.members g a i j) (true_aggregate t g i);
    }

    -- and the other way round
    certain_body : BodyCertain value m r → BodyTrue value (row_of m) r
    certain_body c = record {
      counted = and_from _ _
          (all_from _ r.negative (λ q i. not_from_false (has (row_of m) q) (agrees q false (c.literal q false i))))
          (all_from _ r.aggregates (λ g i. certain_true value m (row_of m) agrees g (c.aggregate g i)));
      positives = all_from _ r.positive (λ q i. agrees q true (c.literal q true i));
    }

-- and so for each rule of a table
module _ (b : List ℕ) (i : ℕ) (value : Values) (m : List Mark) (whole : Whole (length (contents b).names) m) where
  pub certain_is_true : BodyCertain value m (get_or (contents b).rules i no_rule) → BodyTrue value (row_of m) (get_or (contents b).rules i no_rule)
  certain_is_true = certain_body m _ whole value _ (nth_known b i)

  pub true_is_certain : BodyTrue value (row_of m) (get_or (contents b).rules i no_rule) → BodyCertain value m (get_or (contents b).rules i no_rule)
  true_is_certain = body_certain m _ whole value _ (nth_known b i)
