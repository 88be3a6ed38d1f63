-- What the bytes of a table stand for.
use Rattle.std.specs.Prelude.{ℕ, zero, suc, ◌+◌, ◌*◌, if◌then◌else◌, List, [], map, length, take, drop}
use Rattle.format.specs.Aggregates.{aggregate_at, first_member, member_count}
use Rattle.layout.specs.Bytes.{byte_at, whole_at}
use Rattle.format.specs.Check.{accepted}
use Rattle.layout.specs.Areas.{count, offset}
use Rattle.format.specs.Rules.{aggregate_count, first_aggregate, first_literal, head_count, negative_count, positive_count}
use Rattle.format.specs.Statements.{name_at}
use Rattle.layout.specs.declared.area.Area.TheVariants.{Statements, Rules, Literals, Aggregates, Members}
use Rattle.semantics.specs.Programs.{Aggregate, Rule, Program}
use Rattle.semantics.specs.declared.Member.{Member}
use Rattle.semantics.specs.declared.Relation.{Relation}
use Rattle.semantics.specs.declared.Relation.TheVariants.{Less, AtMost, Equal, Unequal, AtLeast, More}
use Rattle.std.specs.List.{range_with_len}

pub record Contents : Type 0 where
  pub names : List (List ℕ)
  pub literals : List ℕ
  pub members : List Member
  pub aggregates : List Aggregate
  pub rules : List Rule

-- the program that the contents are: the statements are the numbers of the names
abbrev pub program : Contents → Program
program c = record { statements = length c.names; rules = c.rules }

-- n elements, from place first on
abbrev pub slice : {X : Type 0} → ℕ → ℕ → List X → List X
slice first n xs = take n (drop first xs)

-- the relation of each code
abbrev pub relation_of : ℕ → Relation
relation_of zero = Less
relation_of (suc zero) = AtMost
relation_of (suc (suc zero)) = Equal
relation_of (suc (suc (suc zero))) = Unequal
relation_of (suc (suc (suc (suc zero)))) = AtLeast
relation_of (suc (suc (suc (suc (suc k))))) = More

unfoldable pub literals_held : List ℕ → List ℕ
literals_held b = slice (offset b Literals) (count b Literals) b

abbrev pub member_held : List ℕ → ℕ → Member
member_held b k = record { statement = byte_at b (offset b Members + 8 * k); weight = whole_at b (offset b Members + 8 * k + 4) }

unfoldable pub members_held : List ℕ → List Member
members_held b = map (member_held b) (range_with_len 0 (count b Members))

abbrev pub aggregate_held : List ℕ → ℕ → Aggregate
aggregate_held b j = record {
  kind = byte_at b (aggregate_at b j);
  relation = relation_of (byte_at b (aggregate_at b j + 1));
  bound = whole_at b (aggregate_at b j + 8);
  members = slice (first_member b j) (member_count b j) (members_held b);
}

unfoldable pub aggregates_held : List ℕ → List Aggregate
aggregates_held b = map (aggregate_held b) (range_with_len 0 (count b Aggregates))

-- a rule's literals are its head, then the positive and then the negative statements
abbrev pub rule_held : List ℕ → ℕ → Rule
rule_held b i = record {
  head = slice (first_literal b i) (head_count b i) (literals_held b);
  positive = slice (first_literal b i + head_count b i) (positive_count b i) (literals_held b);
  negative = slice (first_literal b i + head_count b i + positive_count b i) (negative_count b i) (literals_held b);
  aggregates = slice (first_aggregate b i) (aggregate_count b i) (aggregates_held b);
}

unfoldable pub rules_held : List ℕ → List Rule
rules_held b = map (rule_held b) (range_with_len 0 (count b Rules))

unfoldable pub names_held : List ℕ → List (List ℕ)
names_held b = map (name_at b) (range_with_len 0 (count b Statements))

abbrev pub held : List ℕ → Contents
held b = record { names = names_held b; literals = literals_held b; members = members_held b; aggregates = aggregates_held b; rules = rules_held b }

abbrev pub nothing : Contents
nothing = record { names = []; literals = []; members = []; aggregates = []; rules = [] }

-- of bytes that the check accepts, what they hold; of all others, nothing
unfoldable pub contents : List ℕ → Contents
contents b = if accepted b then held b else nothing
