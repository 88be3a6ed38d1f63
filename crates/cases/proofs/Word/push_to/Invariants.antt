-- The bytes so far are those of the times so far.
use Rattle.std.proofs.Common.{◌≡◌, ◌++◌}
use Rattle.std.specs.List.{repeat}
use Rattle.cases.specs.Hex.{hex_bytes}
use Rattle.cases.proofs.Word.push_to.Given as goal

abbrev pub invariant-loop : goal.invariant-loop
invariant-loop l = l.bytes.items ≡ l.initial.bytes.items ++ repeat l.counter (hex_bytes l.self.digits.now)
