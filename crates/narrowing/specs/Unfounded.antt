-- Sets of statements, by a test of what is in them, and what supports their statements from outside.
use Rattle.std.specs.Prelude.{◌≡◌, ℕ, Bool, true, false, List}
use Rattle.semantics.specs.AnswerSets.{AnswerSet, BodyTrue}
use Rattle.semantics.specs.Families.{Values}
use Rattle.semantics.specs.Lists.{Among}
use Rattle.semantics.specs.Markings.{at, Agrees, BodyCertain, HeadOut, Refuted}
use Rattle.semantics.specs.Programs.{Aggregate, Rule, Program}
use Rattle.semantics.specs.Rows.{has}
use Rattle.semantics.specs.declared.Mark.{Mark}
use Rattle.semantics.specs.declared.Mark.TheVariants.{In}
use Rattle.semantics.specs.declared.Member.{Member}

-- the rule supports a statement of U from outside: its body is true in s and needs no statement of U, some head
-- statement is in s, and all that are in s are of U
pub record SupportsFromOutside (value : Values) (s : List Bool) (U : ℕ → Bool) (r : Rule) : Type 0 where
  pub body : BodyTrue value s r
  pub positives : (q : ℕ) → Among q r.positive → U q ≡ false
  pub members : (g : Aggregate) (k : Member) → Among g r.aggregates → Among k g.members → has s k.statement ≡ true → U k.statement ≡ false
  pub head : (q : ℕ) × Among q r.head × (has s q ≡ true)
  pub heads : (q : ℕ) → Among q r.head → has s q ≡ true → U q ≡ true

-- where U has a statement of an answer set, some rule supports one from outside
abbrev pub ExternalSupport : Type 0
ExternalSupport = (value : Values) (p : Program) (s : List Bool) (U : ℕ → Bool) (q : ℕ) → AnswerSet value p s → U q ≡ true → has s q ≡ true → (r : Rule) × Among r p.rules × SupportsFromOutside value s U r

-- under the marking, the rule can support no statement of U from outside
pub data Blocked (value : Values) (m : List Mark) (U : ℕ → Bool) (r : Rule) : Type 0 where
  -- a positive is out, a negative in, or an aggregate impossible
  refuted : Refuted value m r → Blocked value m U r
  -- a positive is of U
  needs : (q : ℕ) → Among q r.positive → U q ≡ true → Blocked value m U r
  -- a member of an aggregate is of U and in
  needs_member : (g : Aggregate) (k : Member) → Among g r.aggregates → Among k g.members → U k.statement ≡ true → at m k.statement ≡ In → Blocked value m U r
  -- a head statement is in and not of U
  heads_other : (q : ℕ) → Among q r.head → U q ≡ false → at m q ≡ In → Blocked value m U r

-- the rule has no head statement in U, or can support none of them from outside
abbrev pub NoHelp : Values → List Mark → (ℕ → Bool) → Rule → Type 0
NoHelp value m U r = (q : ℕ) → Among q r.head → U q ≡ true → Blocked value m U r

-- a statement of U is marked in, and each rule with one in its head is blocked
pub record Unfounded (value : Values) (rules : List Rule) (m : List Mark) (U : ℕ → Bool) : Type 0 where
  pub some_in : (q : ℕ) × (U q ≡ true) × (at m q ≡ In)
  pub blocked : (r : Rule) (q : ℕ) → Among r rules → Among q r.head → U q ≡ true → Blocked value m U r

-- the head of the rule is out and its body certain
abbrev pub Refuses : Values → List Mark → Rule → Type 0
Refuses value m r = HeadOut m r × BodyCertain value m r

-- no answer set agrees with the marking
abbrev pub NoAnswer : Values → Program → List Mark → Type 0
NoAnswer value p m = (s : List Bool) → AnswerSet value p s → Agrees m s → ⊥
