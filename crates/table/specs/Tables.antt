-- The contents of a table that was opened, and its rules and sets by number.
use Rattle.semantics.specs.Programs.{Aggregate, Program, Rule}
use Rattle.std.specs.Prelude.{ℕ, List, slice_index_or}
use Rattle.table.specs.Contents.{Contents, contents, program}
use Rattle.table.specs.View.{no_aggregate, no_rule}
use Rattle.table.specs.declared.table.Table.{Table}

abbrev pub contents_of : Table → Contents
contents_of t = contents t.bytes.now

abbrev pub rules_of : Table → List Rule
rules_of t = (contents_of t).rules

-- rule i; past the last one, a rule with nothing in it
abbrev pub nth_rule : Table → ℕ → Rule
nth_rule t i = slice_index_or (rules_of t) i no_rule

-- aggregate j; past the last one, one with nothing in it
abbrev pub nth_aggregate : Table → ℕ → Aggregate
nth_aggregate t j = slice_index_or (contents_of t).aggregates j no_aggregate

-- the statements and the rules
abbrev pub program_of : Table → Program
program_of t = program (contents_of t)
