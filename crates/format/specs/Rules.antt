-- Rules and their literals.
use Rattle.std.specs.Prelude.{ℕ, zero, suc, ◌+◌, ◌*◌, List, ◌++◌, ◌==◌, nat_le, nat_lt}
use Rattle.layout.specs.Bytes.{byte_at, word_at}
use Rattle.format.specs.Faults.{unless, each}
use Rattle.layout.specs.Areas.{count, offset}
use Rattle.layout.specs.declared.area.Area.TheVariants.{Statements, Rules, Literals, Aggregates}
use Rattle.refusal.specs.declared.Fault.{Fault}
use Rattle.refusal.specs.declared.Refusal.TheVariants.{RuleCountTooLarge, WrongRuleRun, RulesUnfilled, UnknownLiteral}

-- the place of the record of rule i
abbrev pub rule_at : List ℕ → ℕ → ℕ
rule_at b i = offset b Rules + 8 * i

abbrev pub head_count : List ℕ → ℕ → ℕ
head_count b i = byte_at b (rule_at b i)

abbrev pub positive_count : List ℕ → ℕ → ℕ
positive_count b i = byte_at b (rule_at b i + 1)

abbrev pub negative_count : List ℕ → ℕ → ℕ
negative_count b i = byte_at b (rule_at b i + 2)

abbrev pub aggregate_count : List ℕ → ℕ → ℕ
aggregate_count b i = byte_at b (rule_at b i + 3)

abbrev pub literal_count : List ℕ → ℕ → ℕ
literal_count b i = head_count b i + positive_count b i + negative_count b i

abbrev pub first_literal : List ℕ → ℕ → ℕ
first_literal b i = word_at b (rule_at b i + 4)

abbrev pub first_aggregate : List ℕ → ℕ → ℕ
first_aggregate b i = word_at b (rule_at b i + 6)

-- where the literals of the rule before rule i end, and its aggregates
abbrev pub literals_end : List ℕ → ℕ → ℕ
literals_end b zero = 0
literals_end b (suc i) = first_literal b i + literal_count b i

abbrev pub aggregates_end : List ℕ → ℕ → ℕ
aggregates_end b zero = 0
aggregates_end b (suc i) = first_aggregate b i + aggregate_count b i

abbrev pub rule_faults : List ℕ → ℕ → List Fault
rule_faults b i =
    unless (nat_le (head_count b i) 8) RuleCountTooLarge (rule_at b i)
    ++ (unless (nat_le (positive_count b i) 32) RuleCountTooLarge (rule_at b i + 1)
    ++ (unless (nat_le (negative_count b i) 32) RuleCountTooLarge (rule_at b i + 2)
    ++ (unless (nat_le (aggregate_count b i) 4) RuleCountTooLarge (rule_at b i + 3)
    ++ (unless (first_literal b i == literals_end b i) WrongRuleRun (rule_at b i + 4)
    ++ unless (first_aggregate b i == aggregates_end b i) WrongRuleRun (rule_at b i + 6)))))

abbrev pub all_rule_faults : List ℕ → List Fault
all_rule_faults b =
    each (count b Rules) (rule_faults b)
    ++ (unless (literals_end b (count b Rules) == count b Literals) RulesUnfilled 12
    ++ unless (aggregates_end b (count b Rules) == count b Aggregates) RulesUnfilled 16)

abbrev pub literal_faults : List ℕ → ℕ → List Fault
literal_faults b k = unless (nat_lt (byte_at b (offset b Literals + k)) (count b Statements)) UnknownLiteral (offset b Literals + k)

abbrev pub all_literal_faults : List ℕ → List Fault
all_literal_faults b = each (count b Literals) (literal_faults b)
