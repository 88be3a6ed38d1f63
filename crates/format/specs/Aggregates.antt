-- Aggregates and the members of their sets.
use Rattle.std.specs.Prelude.{ℕ, zero, suc, ◌+◌, ◌*◌, Bool, ◌&&◌, List, ◌++◌, ℤ, pos, negsuc, ◌==◌, int_le, nat_le, nat_lt}
use Rattle.layout.specs.Bytes.{byte_at, word_at, whole_at}
use Rattle.format.specs.Faults.{when, unless, each}
use Rattle.layout.specs.Areas.{count, offset}
use Rattle.layout.specs.declared.area.Area.TheVariants.{Statements, Aggregates, Members}
use Rattle.refusal.specs.declared.Fault.{Fault}
use Rattle.refusal.specs.declared.Refusal.TheVariants.{UnknownRelation, WrongMemberRun, AggregatePadding, MembersUnfilled, UnknownMember, MemberPadding, WeightTooLarge, MemberTwice}

-- the place of the record of aggregate i
abbrev pub aggregate_at : List ℕ → ℕ → ℕ
aggregate_at b i = offset b Aggregates + 12 * i

abbrev pub member_count : List ℕ → ℕ → ℕ
member_count b i = byte_at b (aggregate_at b i + 2)

abbrev pub first_member : List ℕ → ℕ → ℕ
first_member b i = word_at b (aggregate_at b i + 4)

-- where the members of the aggregate before aggregate i end
abbrev pub members_end : List ℕ → ℕ → ℕ
members_end b zero = 0
members_end b (suc i) = first_member b i + member_count b i

abbrev pub is_zero : List ℕ → ℕ → Bool
is_zero b p = byte_at b p == 0

abbrev pub aggregate_faults : List ℕ → ℕ → List Fault
aggregate_faults b i =
    unless (nat_le (byte_at b (aggregate_at b i + 1)) 5) UnknownRelation (aggregate_at b i + 1)
    ++ (unless (nat_le (member_count b i) 128 && first_member b i == members_end b i) WrongMemberRun (aggregate_at b i)
    ++ (unless (is_zero b (aggregate_at b i + 3)) AggregatePadding (aggregate_at b i + 3)
    ++ (unless (is_zero b (aggregate_at b i + 6)) AggregatePadding (aggregate_at b i + 6)
    ++ unless (is_zero b (aggregate_at b i + 7)) AggregatePadding (aggregate_at b i + 7))))

abbrev pub all_aggregate_faults : List ℕ → List Fault
all_aggregate_faults b =
    each (count b Aggregates) (aggregate_faults b)
    ++ unless (members_end b (count b Aggregates) == count b Members) MembersUnfilled 20

-- the place of member k of the set of aggregate i
abbrev pub member_at : List ℕ → ℕ → ℕ → ℕ
member_at b i k = offset b Members + 8 * (first_member b i + k)

-- a weight is at most a million either side of zero
abbrev pub weight_fits : ℤ → Bool
weight_fits w = int_le (negsuc 999999) w && int_le w (pos 1000000)

-- member k has the statement of the earlier member j of its set
abbrev pub same_member_faults : List ℕ → ℕ → ℕ → ℕ → List Fault
same_member_faults b i k j = when (byte_at b (member_at b i j) == byte_at b (member_at b i k)) MemberTwice (member_at b i k)

abbrev pub member_faults : List ℕ → ℕ → ℕ → List Fault
member_faults b i k =
    unless (nat_lt (byte_at b (member_at b i k)) (count b Statements)) UnknownMember (member_at b i k)
    ++ (unless (is_zero b (member_at b i k + 1)) MemberPadding (member_at b i k + 1)
    ++ (unless (is_zero b (member_at b i k + 2)) MemberPadding (member_at b i k + 2)
    ++ (unless (is_zero b (member_at b i k + 3)) MemberPadding (member_at b i k + 3)
    ++ (unless (weight_fits (whole_at b (member_at b i k + 4))) WeightTooLarge (member_at b i k + 4)
    ++ each k (same_member_faults b i k)))))

abbrev pub set_faults : List ℕ → ℕ → List Fault
set_faults b i = each (member_count b i) (member_faults b i)

-- set by set, which is the order of the members
abbrev pub all_member_faults : List ℕ → List Fault
all_member_faults b = each (count b Aggregates) (set_faults b)
