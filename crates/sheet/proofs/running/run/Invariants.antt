use Rattle.sheet.proofs.Made.{FirstMade}
use Rattle.sheet.proofs.running.run.Given as goal
use Rattle.std.proofs.Common.{length}
use Rattle.table.specs.Tables.{contents_of}

-- the visits before this one are made
abbrev pub invariant-loop-i : goal.invariant-loop-i
invariant-loop-i g l = FirstMade (g.F.Family.size l.family) (g.F.Family.value l.family) l.table.bytes.now (length (contents_of l.table).names) l.i l.initial.entries l.entries l.sheet
