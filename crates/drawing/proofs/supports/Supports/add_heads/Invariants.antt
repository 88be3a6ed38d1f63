use Rattle.std.proofs.Common.{◌≡◌, ◌≤◌, length}
use Rattle.drawing.proofs.supports.Supports.add_heads.Given as goal
use Rattle.drawing.specs.Supports.{added}
use Rattle.table.proofs.Tails.{tail}
use Rattle.table.specs.Tables.{contents_of}

-- the statements from place k on have the rule
abbrev pub invariant-loop-k : goal.invariant-loop-k
invariant-loop-k l =
    (l.k-start ≤ l.initial.k → l.k-start ≤ l.k)
    × (l.initial.k ≤ length (contents_of l.table).literals → l.self.by ≡ added l.initial.self.by (tail (contents_of l.table).literals l.initial.k l.k) l.rule)
