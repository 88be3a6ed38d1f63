-- What holds of every program, every family and every marking.
use Rattle.std.specs.Prelude.{◌≡◌, ℕ, ◌<◌, Bool, true, false, not, ◌⊎◌, List, length, ◌≢◌}
use Rattle.semantics.specs.declared.Finding.{Finding}
use Rattle.semantics.specs.declared.Mark.{Mark}
use Rattle.semantics.specs.declared.Mark.TheVariants.{Open, In}
use Rattle.semantics.specs.AnswerSets.{AnswerSet, Supports, Account, AgreesWith}
use Rattle.semantics.specs.Families.{Values, Family, house, bench}
use Rattle.semantics.specs.Lists.{Among}
use Rattle.semantics.specs.Markings.{at, marked, found, noted, literals, Agrees, Below, BodyCertain, HeadOut, OneLeft, OthersOut, CertainButFor, Refuted, Broken, Forces, Step, Reaches, Drawn}
use Rattle.semantics.specs.Programs.{Rule, Program}
use Rattle.semantics.specs.Rows.{ProperPart, Precedes}

-- where the row is an answer set, a rule supports the statement
abbrev pub Supported : List Bool → ℕ → Type 0
Supported s q = (value : Values) (p : Program) → AnswerSet value p s → (r : Rule) × Among r p.rules × Supports value s q r

-- two accounts of one program, under whatever findings, are not part and whole
abbrev pub Antichain : List Bool → List Bool → Type 0
Antichain a b = (value : Values) (p : Program) (f g : List Finding) → Account value p f a → Account value p g b → ProperPart a b → ⊥

-- the order of rows is strict, and total on rows of one length
pub record Order : Type 0 where
  pub irreflexive : (a : List Bool) → Precedes a a → ⊥
  pub transitive : (a b c : List Bool) → Precedes a b → Precedes b c → Precedes a c
  pub total : (a b : List Bool) → length a ≡ length b → (a ≡ b) ⊎ (Precedes a b ⊎ Precedes b a)

-- what the steps do where an answer set agrees with the marking: it agrees with every next one,
-- the marking is not broken, and no step is against a mark
pub record StepsSound (m : List Mark) (s : List Bool) : Type 0 where
  pub next : (value : Values) (p : Program) → AnswerSet value p s → (n : List Mark) → Step value p.rules m n → Agrees n s
  pub unbroken : (value : Values) (p : Program) → AnswerSet value p s → Broken value p.rules m → ⊥
  pub unopposed : (value : Values) (p : Program) → AnswerSet value p s → (q : ℕ) (x : Bool) → Forces value p.rules m q x → at m q ≢ marked (not x)

-- two settled markings that are reached from one start are the same
abbrev pub DrawnOnce : List Mark → List Mark → Type 0
DrawnOnce m n = (value : Values) (rules : List Rule) (start : List Mark) → Drawn value rules start m → Drawn value rules start n → m ≡ n

-- a marking that is reached lies below the settled one that is reached, and steps lead on to that
abbrev pub Leads : List Mark → List Mark → Type 0
Leads m n = (value : Values) (rules : List Rule) (start : List Mark) → Reaches value rules start m → Drawn value rules start n → Below m n × Reaches value rules m n

-- the steps by the letter: the third asks that its one statement is open
pub data ForcesOpen (value : Values) (rules : List Rule) (m : List Mark) : ℕ → Bool → Type 0 where
  fires : (r : Rule) (p : ℕ) → Among r rules → BodyCertain value m r → Among p r.head → OthersOut m r p → ForcesOpen value rules m p true
  explains : (p i : ℕ) (r : Rule) (q : ℕ) (x : Bool) → at m p ≡ In → OneLeft value rules m p i r → Among q (literals r x) → ForcesOpen value rules m q x
  chooses : (p i : ℕ) (r : Rule) (q : ℕ) → at m p ≡ In → OneLeft value rules m p i r → Among q r.head → (q ≢ p) → ForcesOpen value rules m q false
  blocks : (r : Rule) (q : ℕ) (x : Bool) → at m q ≡ Open → Among r rules → HeadOut m r → CertainButFor value m r q x → ForcesOpen value rules m q (not x)
  unsupported : (p : ℕ) → ((r : Rule) → Among r rules → Among p r.head → Refuted value m r) → ForcesOpen value rules m p false

-- to the letter or not, the same is wanted of open statements and, where the marking is not broken, against a mark
pub record SameSteps (value : Values) (rules : List Rule) (m : List Mark) : Type 0 where
  pub loosen : (q : ℕ) (x : Bool) → ForcesOpen value rules m q x → Forces value rules m q x
  pub open_same : (q : ℕ) (x : Bool) → at m q ≡ Open → Forces value rules m q x → ForcesOpen value rules m q x
  pub against_same : (q : ℕ) (x : Bool) → (Broken value rules m → ⊥) → at m q ≡ marked (not x) → Forces value rules m q x → ForcesOpen value rules m q x

abbrev pub ByTheLetter : Type 0
ByTheLetter = (value : Values) (rules : List Rule) (m : List Mark) → SameSteps value rules m

-- the findings are of the program's statements, and none says otherwise than another
pub record Noted (p : Program) (findings : List Finding) : Type 0 where
  pub inside : (f : Finding) → Among f findings → f.statement < p.statements
  pub single : (f : Finding) → Among f findings → found findings f.statement ≡ marked f.present

-- a row agrees with findings exactly when it agrees with their marking
abbrev pub NotedAgrees : Type 0
NotedAgrees = (p : Program) (findings : List Finding) (s : List Bool) → Noted p findings → (AgreesWith findings s → Agrees (noted p findings) s) × (Agrees (noted p findings) s → AgreesWith findings s)

-- the order of a bag never matters, and a kind that is lacking is worth nothing
pub record TwoFamilies : Type 0 where
  pub house_family : Family 4 house
  pub bench_family : Family 2 bench
