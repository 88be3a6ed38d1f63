-- More marks keep what is certain, impossible, refuted and broken; where nothing that is in is forced out they keep what is forced.
use Rattle.std.proofs.Common.{◌≡◌, ℕ, ◌<◌, Bool, true, false, not, List, [], ◌∷◌, length, ℤ, Some, None, Option, refl, subst, inl, inr, ⊎_elim}
use Rattle.semantics.specs.declared.Mark.{Mark}
use Rattle.semantics.specs.declared.Mark.TheVariants.{In}
use Rattle.semantics.specs.declared.Member.{Member}
use Rattle.semantics.specs.AnswerSets.{weights}
use Rattle.semantics.specs.Families.{Values}
use Rattle.semantics.specs.Lists.{Among, Nth}
use Rattle.semantics.specs.FullMarkings.{is_in}
use Rattle.semantics.specs.Markings.{at, marked, Allows, Below, Bag, Attained, Between, Certain, Impossible, BodyCertain, Refuted, HeadOut, Broken, OneLeft, OthersOut, CertainButFor, Forces, fires, explains, chooses, blocks, unsupported, Settled}
use Rattle.semantics.specs.Programs.{Aggregate, Rule}
use Rattle.semantics.proofs.Lists.{among_nth, nth_same}
use Rattle.semantics.proofs.Marks.{allows_in, both_marked, cases_mark, marked_inside}

-- the weights that a row picks are a bag under every marking that the row agrees with
pub bag_of_row : (m : List Mark) (f : ℕ → Bool) → ((q : ℕ) → Allows (at m q) (f q)) → (ms : List Member) → Bag m ms (weights f ms)
bag_of_row m f al [] = refl
bag_of_row m f al (a ∷ ms) = (f a.statement, weights f ms, al a.statement, bag_of_row m f al ms, refl)

module _ (value : Values) (m n : List Mark) (b : Below m n) where
  bag_below : (ms : List Member) (v : List ℤ) → Bag n ms v → Bag m ms v
  bag_below [] v e = e
  bag_below (a ∷ ms) v (x, u, al, bag, e) = (x, u, (λ y h. al y (b a.statement y h)), bag_below ms u bag, e)

  attained_below : (g : Aggregate) (r : Option ℤ) → Attained value n g r → Attained value m g r
  attained_below g r c = (c.0, bag_below g.members c.0 c.1, c.2)

  between_below : (g : Aggregate) (z : ℤ) → Between value n g z → Between value m g z
  between_below g z c = (c.0, c.1, attained_below g _ c.2, attained_below g _ c.3, c.4, c.5)

  pub certain_stays : (g : Aggregate) → Certain value m g → Certain value n g
  certain_stays g c = record {
    number = some (value g.kind ws) refl;
    always = λ d. c.always (attained_below g None d);
    within = λ z d. c.within z (between_below g z d);
  }
    where
      ws : List ℤ
      ws = weights (λ q. is_in (at n q)) g.members

      bag : Bag n g.members ws
      bag = bag_of_row n (λ q. is_in (at n q)) (λ q. allows_in (at n q)) g.members

      some : (o : Option ℤ) → value g.kind ws ≡ o → (z : ℤ) × Attained value n g (Some z)
      some None e = absurd (c.always (attained_below g None (ws, bag, e)))
      some (Some z) e = (z, (ws, bag, e))

  pub impossible_stays : (g : Aggregate) → Impossible value m g → Impossible value n g
  impossible_stays g h z d = h z (between_below g z d)

  pub body_stays : (r : Rule) → BodyCertain value m r → BodyCertain value n r
  body_stays r s = record { literal = λ q x i. b q x (s.literal q x i); aggregate = λ g i. certain_stays g (s.aggregate g i) }

  pub refuted_stays : (r : Rule) → Refuted value m r → Refuted value n r
  refuted_stays r (inl (q, x, i, e)) = inl (q, x, i, b q (not x) e)
  refuted_stays r (inr (g, i, h)) = inr (g, i, impossible_stays g h)

  pub head_stays : (r : Rule) → HeadOut m r → HeadOut n r
  head_stays r h q i = b q false (h q i)

  pub broken_stays : (rules : List Rule) → Broken value rules m → Broken value rules n
  broken_stays rules h = (h.0, h.1, head_stays h.0 h.2, body_stays h.0 h.3)

  others_stay : (r : Rule) (p : ℕ) → OthersOut m r p → OthersOut n r p
  others_stay r p h q i = ⊎_elim inl (λ e. inr (b q false e)) (h q i)

  but_for_stays : (r : Rule) (q : ℕ) (x : Bool) → CertainButFor value m r q x → CertainButFor value n r q x
  but_for_stays r q x c = record {
    one = c.one;
    literal = λ p y i. ⊎_elim inl (λ e. inr (b p y e)) (c.literal p y i);
    aggregate = λ g i. certain_stays g (c.aggregate g i);
  }

-- under a settled marking every statement is marked as a step wants it
pub as_forced : (value : Values) (rules : List Rule) (m : List Mark) → Settled value rules m → (q : ℕ) (x : Bool) → q < length m → Forces value rules m q x → at m q ≡ marked x
as_forced value rules m st q x l h =
    ⊎_elim (λ o. absurd (st.done q x l o h)) (⊎_elim (λ e. e) (λ e. absurd (st.agreed q x e h))) (cases_mark (at m q) x)

-- Where p is in and r alone is left for it, r stays so as long as nothing that is in is forced out: were r refuted too, p would be.
module _ (value : Values) (rules : List Rule) (m n : List Mark) (b : Below m n) (kept : (p : ℕ) → at n p ≡ In → Forces value rules n p false → ⊥) where
  none_left : (p i : ℕ) (r : Rule) → OneLeft value rules m p i r → Refuted value n r → (o : Rule) → Among o rules → Among p o.head → Refuted value n o
  none_left p i r o f r' a h =
      let k = among_nth rules r' a in
      ⊎_elim
      (λ j. subst (λ z. Refuted value n z) (nth_same rules i r r' o.place (subst (λ z. Nth rules z r') j k.1)) f)
      (λ g. refuted_stays value m n b r' g)
      (o.others k.0 r' k.1 h)

  one_left_stays : (p i : ℕ) (r : Rule) → at m p ≡ In → OneLeft value rules m p i r → OneLeft value rules n p i r
  one_left_stays p i r e o = record {
    place = o.place;
    heads = o.heads;
    standing = λ f. kept p (b p true e) (unsupported p (none_left p i r o f));
    others = λ j r' a h. ⊎_elim inl (λ g. inr (refuted_stays value m n b r' g)) (o.others j r' a h);
  }

  pub forced_stays : {q : ℕ} {x : Bool} → Forces value rules m q x → Forces value rules n q x
  forced_stays (fires r p i s j h) = fires r p i (body_stays value m n b r s) j (others_stay value m n b r p h)
  forced_stays (explains p i r q x e o k) = explains p i r q x (b p true e) (one_left_stays p i r e o) k
  forced_stays (chooses p i r q e o k d) = chooses p i r q (b p true e) (one_left_stays p i r e o) k d
  forced_stays (blocks r q x i h k) = blocks r q x i (head_stays value m n b r h) (but_for_stays value m n b r q x k)
  forced_stays (unsupported p h) = unsupported p (λ r i k. refuted_stays value m n b r (h r i k))

-- what is forced below a settled marking is so marked there
pub forced_above : (value : Values) (rules : List Rule) (m n : List Mark) (q : ℕ) (x : Bool) → Settled value rules n → Below m n → q < length n → Forces value rules m q x → at n q ≡ marked x
forced_above value rules m n q x st b l f = as_forced value rules n st q x l (forced_stays value rules m n b (λ p e. st.agreed p false e) f)

-- below a settled marking nothing that is in is forced out
pub kept_below : (value : Values) (rules : List Rule) (m n : List Mark) → Settled value rules n → Below m n → (p : ℕ) → at m p ≡ In → Forces value rules m p false → ⊥
kept_below value rules m n st b p e f =
    let up : at n p ≡ In = b p true e in
    both_marked false (forced_above value rules m n p false st b (marked_inside n p true up) f) up
