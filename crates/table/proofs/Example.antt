-- The small table, by computing.
use Rattle.format.specs.Check.{accepted}
use Rattle.format.specs.Faults.{each}
use Rattle.table.proofs.Held.{contents_held}
use Rattle.table.specs.Contents.{aggregates_held, literals_held, members_held, names_held, program, rules_held}
use Rattle.table.specs.TwoRules.{TwoRules, two_rules}
use Rattle.std.proofs.Common.{◌≡◌, true, refl, ap, ◌∙◌}

passes : accepted two_rules ≡ true
unfolding accepted each
passes = refl

pub example : TwoRules
unfolding aggregates_held literals_held members_held names_held rules_held
example = record { passes = passes; stands = ap program (contents_held two_rules passes) ∙ refl; named = ap (λ c. c.names) (contents_held two_rules passes) ∙ refl }
