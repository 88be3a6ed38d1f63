use Rattle.bench.proofs.Readings.{odd_reads}
use Rattle.bench.proofs.reading.BenchKindKind.read.Goals as goal

pub returns-in-Spread : goal.returns-in-Spread
returns-in-Spread c = simp c.in-Spread.is c.spreads.ensures

pub returns-in-Odd : goal.returns-in-Odd
returns-in-Odd c = λ s o h k. simp c.only_numbers.ensures (simp c.in-Odd.is (odd_reads s o _ (rw k.count at c.odds.ensures.some) (rw (h.count, k.count) at c.odds.ensures.none)))
