-- What a reading of a table shows of its contents.
use Rattle.std.specs.Prelude.{◌≡◌, ℕ, ◌+◌, ◌-◌, ◌*◌, ◌<◌, ◌≤◌, if◌then◌else◌, List, [], length, pos, Option, MatchOption, nat_lt}
use Rattle.layout.specs.Bytes.{byte_at, whole_at, word_at}
use Rattle.format.specs.Aggregates.{aggregate_at}
use Rattle.format.specs.Check.{accepted}
use Rattle.format.specs.declared.check.Counts.{Counts}
use Rattle.layout.specs.Areas.{count, offset, size}
use Rattle.layout.specs.declared.area.Area.{Area}
use Rattle.layout.specs.declared.area.Area.TheVariants.{Statements, Rules, Literals, Aggregates, Members, Names}
use Rattle.semantics.specs.Programs.{Aggregate, Rule}
use Rattle.semantics.specs.declared.Member.{Member}
use Rattle.semantics.specs.declared.Relation.TheVariants.{Less}
use Rattle.table.specs.Contents.{Contents, relation_of, slice}
use Rattle.layout.specs.declared.records.Record.{Record}
use Rattle.table.specs.declared.table.AggregateView.{AggregateView}
use Rattle.table.specs.declared.table.RuleView.{RuleView}
use Rattle.table.specs.declared.table.Run.{Run}

-- xs is the part of all at the places of the run
pub record Covers {X : Type 0} (all xs : List X) (r : Run) : Type 0 where
  pub part : xs ≡ slice r.first (r.end - r.first) all
  pub forward : r.first ≤ r.end
  pub inside : r.end ≤ length all

pub record ShowsRule (c : Contents) (g : Rule) (r : RuleView) : Type 0 where
  pub head : Covers c.literals g.head r.head
  pub positive : Covers c.literals g.positive r.positive
  pub negative : Covers c.literals g.negative r.negative
  pub aggregates : Covers c.aggregates g.aggregates r.aggregates
  pub adjacent : r.positive.end ≡ r.negative.first

pub record ShowsAggregate (c : Contents) (g : Aggregate) (r : AggregateView) : Type 0 where
  pub kind : g.kind ≡ r.kind
  pub relation : g.relation ≡ r.relation
  pub bound : g.bound ≡ r.bound
  pub members : Covers c.members g.members r.members
  pub few : r.members.end - r.members.first ≤ 128

-- what stands at a place that a table has not
abbrev pub no_rule : Rule
no_rule = record { head = []; positive = []; negative = []; aggregates = [] }

abbrev pub no_aggregate : Aggregate
no_aggregate = record { kind = 0; relation = Less; bound = pos 0; members = [] }

abbrev pub no_member : Member
no_member = record { statement = 0; weight = pos 0 }

-- the records of the format, by their place
abbrev pub run : ℕ → ℕ → Run
run first n = record { first = first; end = first + n }

abbrev pub name_read : List ℕ → ℕ → List ℕ
name_read b at = slice (offset b Names + word_at b at) (byte_at b (at + 2)) b

abbrev pub rule_read : List ℕ → ℕ → RuleView
rule_read b at = record {
  head = run (word_at b (at + 4)) (byte_at b at);
  positive = run (word_at b (at + 4) + byte_at b at) (byte_at b (at + 1));
  negative = run (word_at b (at + 4) + byte_at b at + byte_at b (at + 1)) (byte_at b (at + 2));
  aggregates = run (word_at b (at + 6)) (byte_at b (at + 3));
}

abbrev pub aggregate_read : List ℕ → ℕ → AggregateView
aggregate_read b at = record {
  kind = byte_at b at;
  relation = relation_of (byte_at b (at + 1));
  bound = whole_at b (at + 8);
  members = run (word_at b (at + 4)) (byte_at b (at + 2));
}

abbrev pub member_read : List ℕ → ℕ → Member
member_read b at = record { statement = byte_at b at; weight = whole_at b (at + 4) }

-- how many records of an area the counts give
abbrev pub count_in : Counts → Area → ℕ
count_in c Statements = c.statements
count_in c Rules = c.rules
count_in c Literals = c.literals
count_in c Aggregates = c.aggregates
count_in c Members = c.members
count_in c Names = c.names

-- how many records of an area a table has: none where it is not opened
abbrev pub count_held : List ℕ → Area → ℕ
count_held b area = if accepted b then count b area else 0

-- x is record i of an area of a table
pub record IsRecord (b : List ℕ) (area : Area) (i : ℕ) (x : Record) : Type 0 where
  pub below : i < count_held b area
  pub bytes : x.bytes.now ≡ b
  pub at : x.at ≡ offset b area + size area * i

-- record i of an area, or none past the last one and in a table that is not opened
abbrev pub ShowsRecord : List ℕ → Area → ℕ → Option Record → Type 0
ShowsRecord b area i r = MatchOption r (count_held b area ≤ i) (IsRecord b area i)

-- the place of the kind of aggregate j, which its record begins with; past the last one, 0
abbrev pub kind_place : List ℕ → ℕ → ℕ
kind_place b j = if nat_lt j (count_held b Aggregates) then aggregate_at b j else 0
