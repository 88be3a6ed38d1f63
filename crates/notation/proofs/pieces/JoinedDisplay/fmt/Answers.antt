use Rattle.std.proofs.Common.{arith}
use Rattle.notation.proofs.Joining.{first_written, next_written}
use Rattle.notation.proofs.pieces.JoinedDisplay.fmt.Goals as goal
use Rattle.notation.proofs.pieces.JoinedDisplay.fmt.Goals.{then-place-self+in_ok-write_str, else-place-self}

pub loop-place-preserved : goal.loop-place-preserved
loop-place-preserved g c = (
  λ plain.
      let joined = c.args.self.now in
      let so_far = c.loop-place.invariant.0 plain in
      elim c.if-place-self.branch [
        | then-place-self+in_ok-write_str w ↦
            next_written _ joined.separator.now (g.P.Pieces.text joined.pieces) joined.run.first c.loop-place.place c.piece-piece.ensures w.if-place-self.true so_far w.in_ok-write_str.ensures.writes w.f-is c.in_ok-write.ensures.writes
        | else-place-self w ↦
            first_written _ joined.separator.now (g.P.Pieces.text joined.pieces) joined.run.first c.loop-place.place c.piece-piece.ensures c.loop-place.auto.place w.if-place-self.false so_far w.f-is c.in_ok-write.ensures.writes
      ],
  omega arith,
)
