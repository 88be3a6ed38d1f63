use Rattle.notation.proofs.Lines.{in_more, in_same}
use Rattle.notation.proofs.Written.{then_text}
use Rattle.notation.proofs.accounts.InLinesDisplay.fmt.Goals as goal
use Rattle.semantics.specs.Markings.{at}
use Rattle.semantics.specs.declared.Mark.TheVariants.{In}
use Rattle.std.proofs.Common.{◌≡◌, refl, rules}
use Rattle.std.proofs.Output.{has_written_of_eq}

pub loop-statement-preserved-then-ne : goal.loop-statement-preserved-then-ne
loop-statement-preserved-then-ne g c = λ plain.
    let other : at c.args.self.now.marks.now c.loop-statement.statement ≡ In → ⊥ = search rules in
    has_written_of_eq _ _ _ _ _ (in_same _ _ c.loop-statement.statement other) (c.loop-statement.invariant plain)

pub loop-statement-preserved : goal.loop-statement-preserved
loop-statement-preserved g c = λ plain.
    let present : at c.args.self.now.marks.now c.loop-statement.statement ≡ In = search rules in
    has_written_of_eq _ _ _ _ _ (in_more _ _ c.loop-statement.statement present c.name-name.ensures)
    (then_text refl (c.loop-statement.invariant plain) c.in_ok-writeln.ensures.writes)
