use Rattle.presence.proofs.PresenceFamily.read.Goals as goal
use Rattle.presence.proofs.Readings.{known_reads, lacking_reads}
use Rattle.std.proofs.Common.{arith}
use Rattle.std.proofs.lemmas.Int.{ints}

pub returns-then-tally-gt0 : goal.returns-then-tally-gt0
returns-then-tally-gt0 c = λ k s o h. simp c.nothing_or.ensures (lacking_reads k s o (omega (arith, h.kind, c.if-tally-gt0.true)))

pub returns : goal.returns
returns c = λ k s o h. simp c.only_numbers.ensures (known_reads k s o _ (omega (arith, h.kind, c.if-tally-gt0.false)) (omega (arith, ints, h.sure, c.presences.ensures.least)) (omega (arith, ints, h.sure, h.opens, c.presences.ensures.greatest)))
