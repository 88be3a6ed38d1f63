use Rattle.std.proofs.Common.{arith, refl}
use Rattle.std.proofs.Output.{has_written_of_eq}
use Rattle.notation.proofs.Grounding.{lines_more}
use Rattle.notation.proofs.Written.{then_text}
use Rattle.notation.proofs.grounds.TrueLinesDisplay.fmt.Goals as goal
use Rattle.table.specs.Tables.{contents_of}

pub loop-place-preserved : goal.loop-place-preserved
loop-place-preserved g c = (
  (λ plain. has_written_of_eq _ _ _ _ _ (lines_more (contents_of c.args.self.now.table) c.args.self.now.marks.now c.args.self.now.run.first c.loop-place.place c.loop-place.auto.place) (then_text refl (c.loop-place.invariant.0 plain) c.in_ok-write.ensures.writes)),
  omega (arith, c.loop-place-test.true, c.loop-place.auto.place-end),
)
