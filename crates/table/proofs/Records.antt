-- What each record of bytes without faults is known to hold, and the runs that the records give.
use Rattle.std.proofs.Common.{◌≡◌, ℕ, ◌+◌, ◌<◌, ◌≤◌, true, List, [], refl, arith}
use Rattle.format.proofs.Verdicts.{each_clean, parts}
use Rattle.format.specs.Aggregates.{aggregate_at, aggregate_faults, first_member, member_at, member_count, member_faults, members_end, same_member_faults, weight_fits}
use Rattle.layout.specs.Bytes.{byte_at, whole_at}
use Rattle.format.specs.Faults.{each}
use Rattle.layout.specs.Areas.{count, offset}
use Rattle.format.specs.Rules.{aggregate_count, aggregates_end, first_aggregate, first_literal, head_count, literal_count, literal_faults, literals_end, negative_count, positive_count, rule_faults}
use Rattle.format.specs.Statements.{name_byte_faults, name_length, name_start, names_end, statement_at, statement_faults}
use Rattle.layout.specs.declared.area.Area.TheVariants.{Statements, Rules, Literals, Aggregates, Members, Names}
use Rattle.std.proofs.lemmas.Bool.{eqb-false}
use Rattle.table.proofs.Clean.{Clean, fails, holds}
use Rattle.table.proofs.Runs.{Runs, run_inside}

pub record StatementFits (b : List ℕ) (i : ℕ) : Type 0 where
  pub some : 1 ≤ name_length b i
  pub few : name_length b i ≤ 32
  pub joined : name_start b i ≡ names_end b i
  pub padded : byte_at b (statement_at b i + 3) ≡ 0

pub statement_fits : (b : List ℕ) (i : ℕ) → statement_faults b i ≡ [] → StatementFits b i
statement_fits b i e = grind (arith, holds, parts)

pub letter_fits : (b : List ℕ) (k : ℕ) → name_byte_faults b k ≡ [] → (33 ≤ byte_at b (offset b Names + k)) × (byte_at b (offset b Names + k) ≤ 126)
letter_fits b k e = grind (arith, holds)

pub record RuleFits (b : List ℕ) (i : ℕ) : Type 0 where
  pub head : head_count b i ≤ 8
  pub positive : positive_count b i ≤ 32
  pub negative : negative_count b i ≤ 32
  pub aggregates : aggregate_count b i ≤ 4
  pub literals_joined : first_literal b i ≡ literals_end b i
  pub aggregates_joined : first_aggregate b i ≡ aggregates_end b i

pub rule_fits : (b : List ℕ) (i : ℕ) → rule_faults b i ≡ [] → RuleFits b i
rule_fits b i e = grind (arith, holds, parts)

pub literal_fits : (b : List ℕ) (k : ℕ) → literal_faults b k ≡ [] → byte_at b (offset b Literals + k) < count b Statements
literal_fits b k e = grind (arith, holds)

pub record AggregateFits (b : List ℕ) (j : ℕ) : Type 0 where
  pub relation : byte_at b (aggregate_at b j + 1) ≤ 5
  pub few : member_count b j ≤ 128
  pub joined : first_member b j ≡ members_end b j
  pub padded : byte_at b (aggregate_at b j + 3) ≡ 0
  pub padded_low : byte_at b (aggregate_at b j + 6) ≡ 0
  pub padded_high : byte_at b (aggregate_at b j + 7) ≡ 0

pub aggregate_fits : (b : List ℕ) (j : ℕ) → aggregate_faults b j ≡ [] → AggregateFits b j
aggregate_fits b j e = grind (arith, holds, parts)

pub record MemberFits (b : List ℕ) (j k : ℕ) : Type 0 where
  pub known : byte_at b (member_at b j k) < count b Statements
  pub padded_low : byte_at b (member_at b j k + 1) ≡ 0
  pub padded_middle : byte_at b (member_at b j k + 2) ≡ 0
  pub padded_high : byte_at b (member_at b j k + 3) ≡ 0
  pub weight : weight_fits (whole_at b (member_at b j k + 4)) ≡ true
  pub once : (m : ℕ) → m < k → byte_at b (member_at b j m) ≡ byte_at b (member_at b j k) → ⊥

no_earlier_faults : (b : List ℕ) (j k : ℕ) → member_faults b j k ≡ [] → each k (same_member_faults b j k) ≡ []
no_earlier_faults b j k e = grind (arith, parts)

earlier_differs : (b : List ℕ) (j k m : ℕ) → same_member_faults b j k m ≡ [] → byte_at b (member_at b j m) ≡ byte_at b (member_at b j k) → ⊥
earlier_differs b j k m e = eqb-false _ _ (fails _ _ _ e)

pub member_fits : (b : List ℕ) (j k : ℕ) → member_faults b j k ≡ [] → MemberFits b j k
member_fits b j k e = record {
  known = grind (arith, holds, parts);
  padded_low = grind (arith, holds, parts);
  padded_middle = grind (arith, holds, parts);
  padded_high = grind (arith, holds, parts);
  weight = grind (arith, holds, parts);
  once = λ m l. earlier_differs b j k m (each_clean _ k (no_earlier_faults b j k e) m l);
}

module _ (b : List ℕ) (c : Clean b) where
  pub name_runs : Runs (names_end b) (name_start b) (name_length b) (count b Statements)
  name_runs = record { from_zero = refl; next = λ i. refl; follows = λ i l. (statement_fits b i (c.statement i l)).joined }

  pub literal_runs : Runs (literals_end b) (first_literal b) (literal_count b) (count b Rules)
  literal_runs = record { from_zero = refl; next = λ i. refl; follows = λ i l. (rule_fits b i (c.rule i l)).literals_joined }

  pub aggregate_runs : Runs (aggregates_end b) (first_aggregate b) (aggregate_count b) (count b Rules)
  aggregate_runs = record { from_zero = refl; next = λ i. refl; follows = λ i l. (rule_fits b i (c.rule i l)).aggregates_joined }

  pub member_runs : Runs (members_end b) (first_member b) (member_count b) (count b Aggregates)
  member_runs = record { from_zero = refl; next = λ i. refl; follows = λ j l. (aggregate_fits b j (c.aggregate j l)).joined }

  -- every run lies inside its area
  pub name_inside : (i : ℕ) → i < count b Statements → name_start b i + name_length b i ≤ count b Names
  name_inside i l = omega (arith, c.names_filled, run_inside (count b Statements) name_runs i l)

  pub literals_inside : (i : ℕ) → i < count b Rules → first_literal b i + literal_count b i ≤ count b Literals
  literals_inside i l = omega (arith, c.literals_filled, run_inside (count b Rules) literal_runs i l)

  pub aggregates_inside : (i : ℕ) → i < count b Rules → first_aggregate b i + aggregate_count b i ≤ count b Aggregates
  aggregates_inside i l = omega (arith, c.aggregates_filled, run_inside (count b Rules) aggregate_runs i l)

  pub members_inside : (j : ℕ) → j < count b Aggregates → first_member b j + member_count b j ≤ count b Members
  members_inside j l = omega (arith, c.members_filled, run_inside (count b Aggregates) member_runs j l)
