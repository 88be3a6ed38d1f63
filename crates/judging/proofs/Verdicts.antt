-- What a reading says of an aggregate is so under the marking.
use Rattle.family.specs.Bags.{Reached}
use Rattle.family.specs.Readings.{AllStand, Extremes, Judges, NoneStands, Ordered, Reads, SaysCertain, SaysImpossible, Within}
use Rattle.family.specs.declared.reading.Reading.{Reading}
use Rattle.family.specs.declared.reading.Span.{Span}
use Rattle.family.specs.declared.reading.Verdict.{Verdict}
use Rattle.family.specs.declared.reading.Verdict.TheVariants.{Certain as SureVerdict, Impossible as NoVerdict, Neither}
use Rattle.judging.proofs.Bags.{attained, reached}
use Rattle.judging.specs.Weights.{open_weights, sure_weights}
use Rattle.semantics.specs.Families.{Lawful, Values}
use Rattle.semantics.specs.Markings.{Attained, Between, Certain, Impossible}
use Rattle.semantics.specs.Programs.{Aggregate, stands}
use Rattle.semantics.specs.declared.Mark.{Mark}
use Rattle.std.proofs.lemmas.Int.{ints}
use Rattle.std.proofs.lemmas.Bool.{both_ways, cases_Bool}
use Rattle.std.proofs.Common.{◌≡◌, ℕ, false, List, ℤ, ◌≤ℤ◌, IfSome, Some, None, Option, ⊎_elim, arith, MatchOption}

le_trans : (a b c : ℤ) → a ≤ℤ b → b ≤ℤ c → a ≤ℤ c
le_trans a b c p q = omega (arith, ints)

-- a verdict on one pair is a verdict on another that says the same
pub judges_same : (v : Verdict) (C I D J : Type 0) → (C → D) → (D → C) → (I → J) → (J → I) → Judges v C I → Judges v D J
judges_same SureVerdict C I D J f g h k (c, n) = (f c, λ j. n (k j))
judges_same NoVerdict C I D J f g h k (i, n) = (h i, λ d. n (g d))
judges_same Neither C I D J f g h k (n, o) = ((λ d. n (g d)), λ j. o (k j))

module _ {kinds : ℕ} (value : Values) (lawful : Lawful kinds value) (m : List Mark) (g : Aggregate) where
  abbrev Reach : Option ℤ → Type 0
  Reach = Reached (value g.kind) (sure_weights m g.members) (open_weights m g.members)

  -- the extremes of the numbers that are reached, or that none is
  abbrev Numbers : Option Span → Type 0
  Numbers o = MatchOption o ((z : ℤ) → Reach (Some z) → ⊥) (Extremes (λ z. Reach (Some z)))

  into_marking : (r : Option ℤ) → Reach r → Attained value m g r
  into_marking = attained value lawful.family.unordered m g

  from_marking : (r : Option ℤ) → Attained value m g r → Reach r
  from_marking = reached value lawful.family.unordered m g

  -- from the least to the greatest is between two numbers that are attained
  within_between : (s : Span) → Extremes (λ z. Reach (Some z)) s → (z : ℤ) → Within s z → Between value m g z
  within_between s x z w = (s.least, s.greatest, into_marking _ x.least, into_marking _ x.greatest, w.0, w.1)

  between_within : (s : Span) → Extremes (λ z. Reach (Some z)) s → (z : ℤ) → Between value m g z → Within s z
  between_within s x z (l, h, p, q, lo, hi) =
      (le_trans _ l z (x.all l (from_marking (Some l) p)).0 lo, le_trans z h _ hi (x.all h (from_marking (Some h) q)).1)

  ordered : (o : Option Span) → Numbers o → IfSome o (λ s. s.least ≤ℤ s.greatest)
  ordered None h = tt
  ordered (Some s) x = (x.all s.least x.least).1

  module _ (r : Reading) (h : Reads (value g.kind) (sure_weights m g.members) (open_weights m g.members) r) where
    pub reading_ordered : Ordered r
    reading_ordered = ordered r.numbers h.numbers

    certain_so : SaysCertain r g.relation g.bound → Certain value m g
    certain_so c = go r.numbers h.numbers c.stand
      where
        go : (o : Option Span) → Numbers o → MatchOption o ⊥ (λ s. AllStand s g.relation g.bound) → Certain value m g
        go None x a = absurd a
        go (Some s) x a = record {
          number = (s.least, into_marking _ x.least);
          always = λ d. both_ways r.nothing c.never_nothing (h.nothing.1 (from_marking None d));
          within = λ z b. a z (between_within s x z b);
        }

    so_certain : Certain value m g → SaysCertain r g.relation g.bound
    so_certain c = record {
      never_nothing = ⊎_elim (λ t. absurd (c.always (into_marking None (h.nothing.0 t)))) (λ f. f) (cases_Bool r.nothing);
      stand = go r.numbers h.numbers;
    }
      where
        go : (o : Option Span) → Numbers o → MatchOption o ⊥ (λ s. AllStand s g.relation g.bound)
        go None x = x c.number.0 (from_marking _ c.number.1)
        go (Some s) x = λ z w. c.within z (within_between s x z w)

    impossible_so : SaysImpossible r g.relation g.bound → Impossible value m g
    impossible_so c z b = go r.numbers h.numbers c
      where
        go : (o : Option Span) → Numbers o → IfSome o (λ s. NoneStands s g.relation g.bound) → stands g.relation z g.bound ≡ false
        go None x a = absurd (x b.0 (from_marking _ b.2))
        go (Some s) x a = a z (between_within s x z b)

    so_impossible : Impossible value m g → SaysImpossible r g.relation g.bound
    so_impossible c = go r.numbers h.numbers
      where
        go : (o : Option Span) → Numbers o → IfSome o (λ s. NoneStands s g.relation g.bound)
        go None x = tt
        go (Some s) x = λ z w. c z (within_between s x z w)

    pub judged : (v : Verdict) → Judges v (SaysCertain r g.relation g.bound) (SaysImpossible r g.relation g.bound) → Judges v (Certain value m g) (Impossible value m g)
    judged v = judges_same v _ _ _ _ certain_so so_certain impossible_so so_impossible
