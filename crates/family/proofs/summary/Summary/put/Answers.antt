use Rattle.family.proofs.summary.Summary.put.Goals as goal
use Rattle.std.proofs.Common.{arith, rules}
use Rattle.std.proofs.lemmas.Int.{clamps, ints, to_z-of_z}

pub invariant_of-self-clause-bounded : goal.invariant_of-self-clause-bounded
invariant_of-self-clause-bounded c = ((omega (arith, ints, clamps), omega (arith, ints, clamps)), (omega (arith, ints, clamps), omega (arith, ints, clamps)))

pub invariant_of-self-clause-small : goal.invariant_of-self-clause-small
invariant_of-self-clause-small c =
    let f = c.ranges.weight in
    (simp to_z-of_z at c.widened-self.ensures.small) c.args.self.now.small c.requires.small

pub returns-clause-kept : goal.returns-clause-kept
returns-clause-kept c = λ v h.
    let f = c.ranges.weight in
    record {
      count = search rules;
      below = omega (arith, ints, clamps, h.below);
      above = omega (arith, ints, clamps, h.above);
      extremes = (simp to_z-of_z at c.widened-self.ensures.spans) v h.extremes;
    }
