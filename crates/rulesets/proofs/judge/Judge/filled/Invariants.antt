use Rattle.std.proofs.Common.{◌-◌, ◌≤◌, length}
use Rattle.rulesets.proofs.judge.Judge.filled.Given as goal
use Rattle.judging.specs.Weights.{open_weights, sure_weights}
use Rattle.table.proofs.Tails.{tail}
use Rattle.rulesets.specs.Judging.{contents_in}

-- the members from place k on are in the tally
abbrev pub invariant-loop-k : goal.invariant-loop-k
invariant-loop-k g l =
    (l.k-start ≤ l.initial.k → l.k-start ≤ l.k)
    × (l.initial.k ≤ length (contents_in l.self).members → l.initial.k - l.k-start ≤ 128 → g.F.Family.tallies l.self.family.now l.tally l.kind
    (sure_weights l.marking (tail (contents_in l.self).members l.initial.k l.k))
    (open_weights l.marking (tail (contents_in l.self).members l.initial.k l.k)))
