-- The examples, by computing.
use Rattle.format.specs.Check.{accepted}
use Rattle.format.specs.Faults.{each}
use Rattle.notation.specs.Examples.{Examples}
use Rattle.notation.specs.MarkExamples.{MarkExamples}
use Rattle.notation.specs.Shown.{shown}
use Rattle.std.specs.Fmt.{digits}
use Rattle.table.specs.Contents.{aggregates_held, contents, literals_held, members_held, names_held, rules_held}
use Rattle.std.proofs.Common.{refl}

pub worked : Examples
unfolding accepted digits each shown aggregates_held contents literals_held members_held names_held rules_held
worked = record { full = refl; alone = refl; no_head = refl; other_kind = refl; nothing = refl; two = refl; short = refl }

pub marks_worked : MarkExamples
unfolding digits
marks_worked = record { account = refl; empty_account = refl; no_account = refl; each_mark = refl }
