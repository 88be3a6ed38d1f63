-- What the format allows, said of what the bytes stand for.
use Rattle.std.specs.Prelude.{◌≡◌, ℕ, ◌+◌, ◌<◌, ◌≤◌, true, List, [], length, pos, negsuc, ◌≤ℤ◌, ◌≢◌, slice_index, slice_index_or, sum_by}
use Rattle.format.specs.Check.{accepted}
use Rattle.layout.specs.declared.area.Area.{Area}
use Rattle.layout.specs.declared.area.Area.TheVariants.{Statements, Rules, Literals, Aggregates, Members, Names}
use Rattle.semantics.specs.Lists.{Among}
use Rattle.semantics.specs.Programs.{Aggregate, Rule}
use Rattle.semantics.specs.declared.Member.{Member}
use Rattle.table.specs.Contents.{Contents, contents}

abbrev pub literals_in : Rule → ℕ
literals_in r = length r.head + length r.positive + length r.negative

-- how many records of an area the contents make
abbrev pub how_many : Contents → Area → ℕ
how_many c Statements = length c.names
how_many c Rules = length c.rules
how_many c Literals = length c.literals
how_many c Aggregates = length c.aggregates
how_many c Members = length c.members
how_many c Names = sum_by length c.names

-- no two places of the list hold the same
abbrev pub Distinct : {X : Type 0} → (ℕ → X) → ℕ → Type 0
Distinct at n = (i j : ℕ) → i < j → j < n → at i ≢ at j

-- a byte that a name may have
abbrev pub Letter : ℕ → Type 0
Letter c = (33 ≤ c) × (c ≤ 126)

pub record NameLimits (name : List ℕ) : Type 0 where
  pub some : 1 ≤ length name
  pub few : length name ≤ 32
  pub letters : (c : ℕ) → Among c name → Letter c

pub record MemberLimits (statements : ℕ) (m : Member) : Type 0 where
  pub known : m.statement < statements
  pub low : negsuc 999999 ≤ℤ m.weight
  pub high : m.weight ≤ℤ pos 1000000

pub record AggregateLimits (statements : ℕ) (g : Aggregate) : Type 0 where
  pub kind : g.kind < 256
  pub low : negsuc 2147483647 ≤ℤ g.bound
  pub high : g.bound ≤ℤ pos 2147483647
  pub few : length g.members ≤ 128
  pub each : (m : Member) → Among m g.members → MemberLimits statements m
  pub once : Distinct (λ k. (slice_index_or g.members k (record { statement = 0; weight = pos 0 })).statement) (length g.members)

pub record RuleLimits (statements : ℕ) (r : Rule) : Type 0 where
  pub head : length r.head ≤ 8
  pub positive : length r.positive ≤ 32
  pub negative : length r.negative ≤ 32
  pub aggregates : length r.aggregates ≤ 4
  pub head_known : (q : ℕ) → Among q r.head → q < statements
  pub positive_known : (q : ℕ) → Among q r.positive → q < statements
  pub negative_known : (q : ℕ) → Among q r.negative → q < statements
  pub each : (g : Aggregate) → Among g r.aggregates → AggregateLimits statements g

pub record WithinLimits (c : Contents) : Type 0 where
  pub statements : length c.names ≤ 128
  pub rules : length c.rules ≤ 1024
  pub literals : sum_by literals_in c.rules ≤ 8192
  pub aggregates : sum_by (λ r. length r.aggregates) c.rules ≤ 1024
  pub members : sum_by (λ r. sum_by (λ g. length g.members) r.aggregates) c.rules ≤ 2048
  pub names : sum_by length c.names ≤ 4096
  pub each_rule : (r : Rule) → Among r c.rules → RuleLimits (length c.names) r
  pub each_name : (name : List ℕ) → Among name c.names → NameLimits name
  pub names_once : Distinct (λ i. slice_index_or c.names i []) (length c.names)

-- every element is a byte
abbrev pub Bytes : List ℕ → Type 0
Bytes b = (k : ℕ) → slice_index b k < 256

-- these bytes are the only accepted ones with their program and names
abbrev pub OnlyBytes : List ℕ → Type 0
OnlyBytes b = (o : List ℕ) → Bytes o → accepted o ≡ true → accepted b ≡ true → (contents o).rules ≡ (contents b).rules → (contents o).names ≡ (contents b).names → o ≡ b
