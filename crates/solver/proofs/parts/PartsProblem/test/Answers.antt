use Rattle.solver.proofs.Judgements.{row_fails}
use Rattle.solver.proofs.parts.PartsProblem.test.Goals as goal
use Rattle.solver.specs.Parts.{SmallerBy}
use Rattle.std.proofs.Common.{◌∙◌, sym}
use Rattle.std.proofs.lemmas.Bool.{both_ways}

pub returns-then-is_smaller : goal.returns-then-is_smaller
returns-then-is_smaller c = λ long full. (c.is_smaller.ensures (record { full = full; long = long })).0 c.if-is_smaller.true

pub returns-else-is_smaller : goal.returns-else-is_smaller
returns-else-is_smaller c = λ long full.
    row_fails (SmallerBy c.args.self.now) c.args.removed.now full (λ s f. f.long ∙ sym long)
    (λ f. both_ways c.is_smaller.result c.if-is_smaller.false ((c.is_smaller.ensures (record { full = full; long = long })).1 f))
