use Rattle.std.proofs.Common.{refl}
use Rattle.solver.proofs.theorems.support_examples.Goals as goal

pub returns : goal.returns
returns c = record {
  first_of_three = refl;
  second = refl;
  listed_twice = refl;
  other_head = refl;
  aggregate = refl;
  aggregate_false = refl;
  not_in = refl;
  past_the_last = refl;
  bytes = refl;
  other_bytes = refl;
}
