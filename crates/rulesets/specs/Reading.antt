-- The records of a table, read into arrays.
use Rattle.rulesets.specs.Rulesets.{SetsOf}
use Rattle.rulesets.specs.declared.ruleset.Ruleset.{Ruleset}
use Rattle.semantics.specs.declared.Member.{Member}
use Rattle.std.specs.Prelude.{◌≡◌, ℕ, ◌<◌, List, length, slice_index_or}
use Rattle.table.specs.Limits.{MemberLimits}
use Rattle.table.specs.Tables.{contents_of, nth_aggregate, nth_rule}
use Rattle.table.specs.View.{ShowsAggregate, no_member}
use Rattle.table.specs.declared.table.AggregateView.{AggregateView}
use Rattle.table.specs.declared.table.Table.{Table}

-- each place of the array has the sets of the rule of that number
abbrev pub RulesRead : Table → List Ruleset → Type 0
RulesRead t rs = (i : ℕ) (d : Ruleset) → i < length rs → SetsOf (contents_of t) (nth_rule t i) (slice_index_or rs i d)

-- each place has the view of the aggregate of that number
abbrev pub AggregatesRead : Table → List AggregateView → Type 0
AggregatesRead t gs = (j : ℕ) (d : AggregateView) → j < length gs → ShowsAggregate (contents_of t) (nth_aggregate t j) (slice_index_or gs j d)

-- the member at place k of the table, whose statement and weight are within limits
abbrev pub MemberRead : Table → ℕ → Member → Type 0
MemberRead t k m = (m ≡ slice_index_or (contents_of t).members k no_member) × (k < length (contents_of t).members → MemberLimits (length (contents_of t).names) m)

-- each place has the member at that place of the table
abbrev pub MembersRead : Table → List Member → Type 0
MembersRead t ms = (k : ℕ) (d : Member) → k < length ms → MemberRead t k (slice_index_or ms k d)
