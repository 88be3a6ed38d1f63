-- What a rulebook stands for: the contents, the rules and the sets of its table.
use Rattle.std.specs.Prelude.{ℕ}
use Rattle.judging.specs.declared.rulebook.Rulebook.{Rulebook}
use Rattle.semantics.specs.Programs.{Aggregate, Program, Rule}
use Rattle.table.specs.Contents.{Contents}
use Rattle.table.specs.Tables.{contents_of, nth_aggregate, nth_rule, program_of}

abbrev pub contents_in : {F : Type 0} → Rulebook F → Contents
contents_in b = contents_of b.table.now

abbrev pub rule_in : {F : Type 0} → Rulebook F → ℕ → Rule
rule_in b i = nth_rule b.table.now i

abbrev pub aggregate_in : {F : Type 0} → Rulebook F → ℕ → Aggregate
aggregate_in b j = nth_aggregate b.table.now j

abbrev pub program_in : {F : Type 0} → Rulebook F → Program
program_in b = program_of b.table.now
