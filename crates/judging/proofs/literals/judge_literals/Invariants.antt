use Rattle.std.proofs.Common.{◌≤◌, List, ◌++◌, length}
use Rattle.judging.proofs.literals.judge_literals.Given as goal
use Rattle.judging.specs.Literals.{LiteralsAre, as_literals}
use Rattle.judging.specs.declared.literals.Literal.{Literal}
use Rattle.table.proofs.Tails.{tail}
use Rattle.table.specs.Tables.{contents_of}

-- the literals from place k on are judged
abbrev pub invariant-loop-k : goal.invariant-loop-k
invariant-loop-k l =
    (l.k-start ≤ l.initial.k → l.k-start ≤ l.k)
    × ((ls : List Literal) → l.initial.k ≤ length (contents_of l.table).literals → LiteralsAre l.marking ls l.fn.before → LiteralsAre l.marking (as_literals l.present (tail (contents_of l.table).literals l.initial.k l.k) ++ ls) l.all)
