use Rattle.family.proofs.family.AnyFamily.add_open.Goals as goal
use Rattle.std.proofs.lemmas.Int.{to_z-of_z}

pub returns : goal.returns
returns g c = let f = c.ranges.weight in simp to_z-of_z at c.add_open.ensures
