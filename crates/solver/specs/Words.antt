-- What is told of a statement, as text.
use Rattle.solver.specs.declared.weighing.Weighing.{Weighing}
use Rattle.solver.specs.declared.weighing.Weighing.TheVariants.{InEvery, InNone, InSome, NoAccount}
use Rattle.std.specs.Prelude.{List, codes, ℕ}

abbrev pub weighing_text : Weighing → List ℕ
weighing_text NoAccount = codes "no account"
weighing_text InEvery = codes "in every account"
weighing_text InNone = codes "in none"
weighing_text InSome = codes "in some only"
