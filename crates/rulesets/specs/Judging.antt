-- What a judge stands for: the contents, the rules and the aggregates of its table; and what it answers.
use Rattle.marking.specs.Sets.{contains}
use Rattle.marking.specs.declared.set.Set.{Set}
use Rattle.rulesets.specs.declared.judge.Judge.{Judge}
use Rattle.semantics.specs.Markings.{at}
use Rattle.semantics.specs.Programs.{Aggregate, Program, Rule}
use Rattle.semantics.specs.declared.Mark.{Mark}
use Rattle.std.specs.Prelude.{◌≡◌, ℕ, Bool, List, true}
use Rattle.table.specs.Contents.{Contents}
use Rattle.table.specs.Tables.{contents_of, nth_aggregate, nth_rule, program_of}

abbrev pub contents_in : {F : Type 0} → Judge F → Contents
contents_in b = contents_of b.rules.now.table.now

abbrev pub rule_in : {F : Type 0} → Judge F → ℕ → Rule
rule_in b i = nth_rule b.rules.now.table.now i

abbrev pub aggregate_in : {F : Type 0} → Judge F → ℕ → Aggregate
aggregate_in b j = nth_aggregate b.rules.now.table.now j

abbrev pub program_in : {F : Type 0} → Judge F → Program
program_in b = program_of b.rules.now.table.now

-- every statement of the set has this mark
abbrev pub AllMarked : List Mark → Mark → Set → Type 0
AllMarked m v s = (q : ℕ) → contains s q ≡ true → at m q ≡ v

-- the answer is true just where the fact holds: a record, so that a proof finds it whole
pub record Tells (answer : Bool) (Fact : Type 0) : Type 0 where
  pub so : answer ≡ true → Fact
  pub from : Fact → answer ≡ true
