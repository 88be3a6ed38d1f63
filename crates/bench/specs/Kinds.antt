-- The kinds of the bench family by their numbers.
use Rattle.bench.specs.declared.kind.BenchKind.{BenchKind}
use Rattle.bench.specs.declared.kind.BenchKind.TheVariants.{Spread, Odd}
use Rattle.std.specs.Prelude.{ℕ}

abbrev pub number : BenchKind → ℕ
number Spread = 0
number Odd = 1
