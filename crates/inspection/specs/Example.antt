-- What is printed of a table of 76 bytes.
use Rattle.std.specs.Prelude.{◌≡◌, ℕ, List, codes}
use Rattle.inspection.specs.Inspection.{Inspected}
use Rattle.table.specs.TwoRules.{two_rules}

-- its counts, its two rules, that both its statements are forced in, and the account of both
abbrev pub TwoRulesInspected : Type 0
TwoRulesInspected = (out : List ℕ) → Inspected two_rules out → out ≡ codes "statements 2, rules 2, literals 2, aggregates 1, members 1, name bytes 2\na.\nb :- count{a:1} > 0.\nin a\nin b\naccount 2\nin a\nin b\n"
