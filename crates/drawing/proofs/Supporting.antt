-- Counting the rules that are left for each statement.
use Rattle.std.proofs.Common.{◌≡◌, ℕ, ◌+◌, ◌-◌, ◌<◌, ◌≤◌, false, cond, eqb, ◌⊎◌, List, [], ◌∷◌, length, get_or, set, sym, refl, ap, ◌∙◌, subst, inl, inr, ⊎_elim, arith}
use Rattle.drawing.specs.Supports.{Standing, SupportIs, added, supported_by, with_rule}
use Rattle.drawing.specs.declared.supports.Support.{Support}
use Rattle.drawing.specs.declared.supports.Support.TheVariants.{Unsupported, OneRule, ManyRules}
use Rattle.semantics.proofs.Lists.{nth_same}
use Rattle.semantics.proofs.Monotone.{refuted_stays}
use Rattle.semantics.specs.Families.{Values}
use Rattle.semantics.specs.Lists.{Among, Nth}
use Rattle.semantics.specs.Markings.{Below, Refuted}
use Rattle.semantics.specs.Programs.{Rule}
use Rattle.semantics.specs.declared.Mark.{Mark}
use Rattle.std.proofs.lemmas.List.{get_or-set_other, get_or-set_same, length-set}
use Rattle.std.proofs.lemmas.Bool.{cases_eq, cases_lt, eq-eqb, ne_eqb}
use Rattle.table.proofs.Tails.{tail, tail_more}

-- one head statement more: the one before place k
pub added_next : (by now after : List Support) (all : List ℕ) (end k i q : ℕ) → 1 ≤ k → k ≤ end → end ≤ length all → q ≡ get_or all (k - 1) 0 → now ≡ added by (tail all end k) i → after ≡ set now q (with_rule (supported_by now q) i) → after ≡ added by (tail all end (k - 1)) i
added_next by now after all end k i q p l h here e f =
    let next : tail all end (k - 1) ≡ q ∷ tail all end k = tail_more all end k 0 p l h ∙ ap (λ a. a ∷ tail all end k) (sym here) in
    f ∙ rw (next, e) refl

-- the same rule counts once
with_twice : (s : Support) (i : ℕ) → with_rule (with_rule s i) i ≡ with_rule s i
with_twice Unsupported i = ap (λ b. cond b (OneRule i) ManyRules) (eq-eqb i i refl)
with_twice (OneRule j) i =
    ⊎_elim
    (λ e. let b = eq-eqb j i e in rw b (ap (λ b. cond b (OneRule j) ManyRules) b))
    (λ d. let b = ne_eqb j i d in rw b refl)
    (cases_eq j i)
with_twice ManyRules i = refl

pub length_added : (by : List Support) (qs : List ℕ) (i : ℕ) → length (added by qs i) ≡ length by
length_added by [] i = refl
length_added by (q ∷ qs) i = length-set (added by qs i) q _ ∙ length_added by qs i

pub among_or_not : (q : ℕ) (qs : List ℕ) → Among q qs ⊎ (Among q qs → ⊥)
among_or_not q [] = inr (λ i. i)
among_or_not q (p ∷ qs) =
    ⊎_elim
    (λ e. inl (inl e))
    (λ d. ⊎_elim (λ i. inl (inr i)) (λ n. inr (λ i. ⊎_elim d n i)) (among_or_not q qs))
    (cases_eq p q)

-- what is added to the support of one statement
pub not_added_to : (by : List Support) (qs : List ℕ) (i q : ℕ) → (Among q qs → ⊥) → supported_by (added by qs i) q ≡ supported_by by q
not_added_to by [] i q n = refl
not_added_to by (p ∷ qs) i q n = get_or-set_other (added by qs i) p q _ Unsupported (λ e. n (inl (sym e))) ∙ not_added_to by qs i q (λ h. n (inr h))

module _ (by : List Support) (i q : ℕ) (l : q < length by) where
  added_first : (qs : List ℕ) → Among q qs ⊎ (Among q qs → ⊥) → (Among q qs → supported_by (added by qs i) q ≡ with_rule (supported_by by q) i) → with_rule (supported_by (added by qs i) q) i ≡ with_rule (supported_by by q) i
  added_first qs (inl h) ih = ap (λ s. with_rule s i) (ih h) ∙ with_twice (supported_by by q) i
  added_first qs (inr n) ih = ap (λ s. with_rule s i) (not_added_to by qs i q n)

  pub added_to : (qs : List ℕ) → Among q qs → supported_by (added by qs i) q ≡ with_rule (supported_by by q) i
  added_to [] h = absurd h
  added_to (p ∷ qs) h =
      ⊎_elim
      (λ (e : q ≡ p). rw (sym e) (get_or-set_same (added by qs i) q _ Unsupported (omega (arith, length_added by qs i)) ∙ added_first qs (among_or_not q qs) (added_to qs)))
      (λ d. get_or-set_other (added by qs i) p q _ Unsupported d ∙ added_to qs (⊎_elim (λ e. absurd (d (sym e))) (λ k. k) h))
      (cases_eq q p)

module _ (value : Values) (rules : List Rule) where
  -- more marks leave it so
  pub support_above : (n : ℕ) (m k : List Mark) (q : ℕ) (s : Support) → Below m k → SupportIs value rules n m q s → SupportIs value rules n k q s
  support_above n m k q Unsupported b h = λ j o l a i. refuted_stays value m k b o (h j o l a i)
  support_above n m k q (OneRule i) b h = record {
    rule = h.rule;
    seen = h.seen;
    place = h.place;
    heads = h.heads;
    others = λ j o l a e. ⊎_elim inl (λ f. inr (refuted_stays value m k b o f)) (h.others j o l a e);
  }
  support_above n m k q ManyRules b h = tt

  -- one rule more, which is r
  module _ (n : ℕ) (m : List Mark) (r : Rule) (here : Nth rules n r) (q : ℕ) where
    -- an earlier rule, or this one
    earlier : (X : ℕ → Rule → Type 0) → ((j : ℕ) (o : Rule) → j < n → Nth rules j o → Among q o.head → X j o) → (Among q r.head → X n r) → (j : ℕ) (o : Rule) → j < n + 1 → Nth rules j o → Among q o.head → X j o
    earlier X h new j o l a i =
        ⊎_elim
        (λ (k : j < n). h j o k a i)
        (λ k.
        let e : j ≡ n = omega arith in
        let f : r ≡ o = nth_same rules n r o here (subst (λ z. Nth rules z o) e a) in
        subst (λ z. X z o) (sym e) (subst (X n) f (new (subst (λ z. Among q z.head) (sym f) i))))
        (cases_lt j n)

    -- a rule that is refuted, or has q not in its head, changes nothing
    pub support_passed : (s : Support) → (Among q r.head → Refuted value m r) → SupportIs value rules n m q s → SupportIs value rules (n + 1) m q s
    support_passed Unsupported f h = earlier (λ j o. Refuted value m o) h f
    support_passed (OneRule i) f h = record {
      rule = h.rule;
      seen = omega (arith, h.seen);
      place = h.place;
      heads = h.heads;
      others = earlier (λ j o. (j ≡ i) ⊎ Refuted value m o) h.others (λ k. inr (f k));
    }
    support_passed ManyRules f h = tt

    not_again : (i : ℕ) → i < n → eqb i n ≡ false
    not_again i l = ne_eqb i n (λ e. omega arith)

    -- a rule with q in its head is added
    pub support_more : (s : Support) → Among q r.head → SupportIs value rules n m q s → SupportIs value rules (n + 1) m q (with_rule s n)
    support_more Unsupported a h = record { rule = r; seen = omega arith; place = here; heads = a; others = earlier (λ j o. (j ≡ n) ⊎ Refuted value m o) (λ j o l b i. inr (h j o l b i)) (λ k. inl refl) }
    support_more (OneRule i) a h = rw (not_again i h.seen) tt
    support_more ManyRules a h = tt

    pub standing_more : (s : Support) → Among q r.head → (Refuted value m r → ⊥) → SupportIs value rules n m q s → Standing value rules m q s → Standing value rules m q (with_rule s n)
    standing_more Unsupported a f h g = λ o b k. f (subst (Refuted value m) (nth_same rules n o r b here) k)
    standing_more (OneRule i) a f h g = rw (not_again i h.seen) (record {
      first = i;
      second = n;
      differ = λ e. omega (arith, h.seen);
      one = h.rule;
      other = r;
      one_place = h.place;
      other_place = here;
      one_heads = h.heads;
      other_heads = a;
      one_standing = g h.rule h.place;
      other_standing = f;
    })
    standing_more ManyRules a f h g = g
