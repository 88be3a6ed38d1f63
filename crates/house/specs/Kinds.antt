-- The kinds of the house family by their numbers, and their words.
use Rattle.house.specs.declared.kind.HouseKind.{HouseKind}
use Rattle.house.specs.declared.kind.HouseKind.TheVariants.{Count, Sum, Least, Greatest}
use Rattle.std.specs.Prelude.{ℕ, List, codes}

abbrev pub number : HouseKind → ℕ
number Count = 0
number Sum = 1
number Least = 2
number Greatest = 3

abbrev pub word : HouseKind → List ℕ
word Count = codes "count"
word Sum = codes "sum"
word Least = codes "min"
word Greatest = codes "max"
