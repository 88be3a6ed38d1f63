use Rattle.format.proofs.Verdicts.{each_leaves, each_passed}
use Rattle.format.proofs.records.check_each.Goals as goal
use Rattle.std.proofs.Common.{rules}

pub returns-in_err-check : goal.returns-in_err-check
returns-in_err-check g c =
    each_leaves _ _ _ _ _ c.from_residual.ensures.1 (c.requires.1.1 _ _ (search rules) c.in_err-check.ensures) c.loop-i-test.true c.loop-i.invariant

pub returns : goal.returns
returns g c = search (rules, each_passed)
