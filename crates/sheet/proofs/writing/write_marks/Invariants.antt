use Rattle.std.proofs.Common.{◌≡◌}
use Rattle.sheet.proofs.Bytes.{begun}
use Rattle.sheet.proofs.writing.write_marks.Given as goal

-- the marks of the statements before this one are written
abbrev pub invariant-loop-statement : goal.invariant-loop-statement
invariant-loop-statement l = l.part ≡ begun l.marks l.statement l.initial.part
