-- Partial markings, what is certain and what is refuted under one, and the steps of drawing.
use Rattle.std.specs.Prelude.{◌≡◌, ℕ, ◌<◌, Bool, true, false, if◌then◌else◌, not, ◌⊎◌, List, [], ◌∷◌, map, length, ℤ, ◌≤ℤ◌, Some, None, Option, ◌==◌, ◌≢◌, slice_index_or, slice_set}
use Rattle.std.specs.List.{range_with_len}
use Rattle.semantics.specs.declared.Finding.{Finding}
use Rattle.semantics.specs.declared.Mark.{Mark}
use Rattle.semantics.specs.declared.Mark.TheVariants.{Open, In, Out}
use Rattle.semantics.specs.declared.Member.{Member}
use Rattle.semantics.specs.Families.{Values}
use Rattle.semantics.specs.Lists.{Among, Nth}
use Rattle.semantics.specs.Programs.{Aggregate, Rule, Program, stands}
use Rattle.semantics.specs.Rows.{has}

-- the mark of statement q
abbrev pub at : List Mark → ℕ → Mark
at m q = slice_index_or m q Open

-- the mark of a statement that is in (true) or out (false)
abbrev pub marked : Bool → Mark
marked true = In
marked false = Out

-- a statement with this mark may be in (true) or out (false)
abbrev pub Allows : Mark → Bool → Type 0
Allows v b = (x : Bool) → v ≡ marked x → b ≡ x

-- the row has what is marked in, and lacks what is marked out
abbrev pub Agrees : List Mark → List Bool → Type 0
Agrees m s = (q : ℕ) → Allows (at m q) (has s q)

-- n has every mark of m, and perhaps more
abbrev pub Below : List Mark → List Mark → Type 0
Below m n = (q : ℕ) (x : Bool) → at m q ≡ marked x → at n q ≡ marked x

-- the weights of every member that is in, of some, none or all of the open ones, and of none that is out
abbrev pub Bag : List Mark → List Member → List ℤ → Type 0
Bag m [] v = v ≡ []
Bag m (a ∷ ms) v = (b : Bool) × (u : List ℤ) × Allows (at m a.statement) b × Bag m ms u × (v ≡ (if b then a.weight ∷ u else u))

-- the aggregate can come to this value: some bag under the marking has it
abbrev pub Attained : Values → List Mark → Aggregate → Option ℤ → Type 0
Attained value m g r = (v : List ℤ) × Bag m g.members v × (value g.kind v ≡ r)

-- z lies between two numbers that it can come to, and so from the least to the greatest of them
abbrev pub Between : Values → List Mark → Aggregate → ℤ → Type 0
Between value m g z = (l h : ℤ) × Attained value m g (Some l) × Attained value m g (Some h) × (l ≤ℤ z) × (z ≤ℤ h)

-- it can come to a number, it cannot come to nothing, and every whole number from the least to the greatest stands in the relation
pub record Certain (value : Values) (m : List Mark) (g : Aggregate) : Type 0 where
  pub number : (z : ℤ) × Attained value m g (Some z)
  pub always : Attained value m g None → ⊥
  pub within : (z : ℤ) → Between value m g z → stands g.relation z g.bound ≡ true

-- no whole number from the least to the greatest stands in the relation; so too where it can come to no number
abbrev pub Impossible : Values → List Mark → Aggregate → Type 0
Impossible value m g = (z : ℤ) → Between value m g z → stands g.relation z g.bound ≡ false

-- the positive (true) or the negative (false) statements of a rule
abbrev pub literals : Rule → Bool → List ℕ
literals r true = r.positive
literals r false = r.negative

abbrev pub AggregatesCertain : Values → List Mark → Rule → Type 0
AggregatesCertain value m r = (g : Aggregate) → Among g r.aggregates → Certain value m g

-- the body is certain: its positives are in, its negatives out, and its aggregates certain
pub record BodyCertain (value : Values) (m : List Mark) (r : Rule) : Type 0 where
  pub literal : (q : ℕ) (x : Bool) → Among q (literals r x) → at m q ≡ marked x
  pub aggregate : AggregatesCertain value m r

-- the body is refuted: a positive is out, a negative in, or an aggregate impossible
abbrev pub Refuted : Values → List Mark → Rule → Type 0
Refuted value m r = ((q : ℕ) × (x : Bool) × Among q (literals r x) × (at m q ≡ marked (not x))) ⊎ ((g : Aggregate) × Among g r.aggregates × Impossible value m g)

-- all head statements are out, or there is none
abbrev pub HeadOut : List Mark → Rule → Type 0
HeadOut m r = (q : ℕ) → Among q r.head → at m q ≡ Out

-- a rule has no head statement left and a certain body
abbrev pub Broken : Values → List Rule → List Mark → Type 0
Broken value rules m = (r : Rule) × Among r rules × HeadOut m r × BodyCertain value m r

-- of the rules with p in the head, just the one at place i, which is r, is not refuted
pub record OneLeft (value : Values) (rules : List Rule) (m : List Mark) (p i : ℕ) (r : Rule) : Type 0 where
  pub place : Nth rules i r
  pub heads : Among p r.head
  pub standing : Refuted value m r → ⊥
  pub others : (j : ℕ) (o : Rule) → Nth rules j o → Among p o.head → (j ≡ i) ⊎ Refuted value m o

-- every head statement but p is out
abbrev pub OthersOut : List Mark → Rule → ℕ → Type 0
OthersOut m r p = (q : ℕ) → Among q r.head → (q ≡ p) ⊎ (at m q ≡ Out)

-- the body is certain but perhaps for q, a positive (true) or a negative (false) statement
pub record CertainButFor (value : Values) (m : List Mark) (r : Rule) (q : ℕ) (x : Bool) : Type 0 where
  pub one : Among q (literals r x)
  pub literal : (p : ℕ) (y : Bool) → Among p (literals r y) → ((p ≡ q) × (y ≡ x)) ⊎ (at m p ≡ marked y)
  pub aggregate : AggregatesCertain value m r

-- a step wants statement q in (true) or out (false)
pub data Forces (value : Values) (rules : List Rule) (m : List Mark) : ℕ → Bool → Type 0 where
  -- 1: the body is certain and every head statement but p is out
  fires : (r : Rule) (p : ℕ) → Among r rules → BodyCertain value m r → Among p r.head → OthersOut m r p → Forces value rules m p true
  -- 2: p is in and one rule is left for it: its positives are in and its negatives out
  explains : (p i : ℕ) (r : Rule) (q : ℕ) (x : Bool) → at m p ≡ In → OneLeft value rules m p i r → Among q (literals r x) → Forces value rules m q x
  -- 2: and its other head statements are out
  chooses : (p i : ℕ) (r : Rule) (q : ℕ) → at m p ≡ In → OneLeft value rules m p i r → Among q r.head → (q ≢ p) → Forces value rules m q false
  -- 3: no head statement is left and the body is certain but for one positive or negative
  blocks : (r : Rule) (q : ℕ) (x : Bool) → Among r rules → HeadOut m r → CertainButFor value m r q x → Forces value rules m q (not x)
  -- 4: every rule with p in its head is refuted
  unsupported : (p : ℕ) → ((r : Rule) → Among r rules → Among p r.head → Refuted value m r) → Forces value rules m p false

-- a step marks an open statement as it is wanted
pub record Step (value : Values) (rules : List Rule) (m n : List Mark) : Type 0 where
  pub statement : ℕ
  pub becomes : Bool
  pub inside : statement < length m
  pub was_open : at m statement ≡ Open
  pub forced : Forces value rules m statement becomes
  pub next : n ≡ slice_set m statement (marked becomes)

-- steps lead from start to a marking
pub data Reaches (value : Values) (rules : List Rule) (start : List Mark) : List Mark → Type 0 where
  here : Reaches value rules start start
  then : (m n : List Mark) → Reaches value rules start m → Step value rules m n → Reaches value rules start n

-- it is not broken, nothing that is open is wanted in or out, and nothing is wanted against its mark
pub record Settled (value : Values) (rules : List Rule) (m : List Mark) : Type 0 where
  pub whole : Broken value rules m → ⊥
  pub done : (q : ℕ) (x : Bool) → q < length m → at m q ≡ Open → Forces value rules m q x → ⊥
  pub agreed : (q : ℕ) (x : Bool) → at m q ≡ marked (not x) → Forces value rules m q x → ⊥

-- the settled marking that steps reach
pub record Drawn (value : Values) (rules : List Rule) (start m : List Mark) : Type 0 where
  pub reached : Reaches value rules start m
  pub settled : Settled value rules m

-- steps reach no settled marking
abbrev pub Clash : Values → List Rule → List Mark → Type 0
Clash value rules start = (m : List Mark) → Drawn value rules start m → ⊥

-- the mark that findings give a statement
abbrev pub found : List Finding → ℕ → Mark
found [] q = Open
found (f ∷ fs) q = if f.statement == q then marked f.present else found fs q

-- the marking of the findings, where drawing starts
abbrev pub noted : Program → List Finding → List Mark
noted p findings = map (found findings) (range_with_len 0 p.statements)
