use Rattle.daybook.proofs.StatementLines.{account_lines_more, account_lines_same}
use Rattle.daybook.proofs.telling.AccountLinesDisplay.fmt.Goals as goal
use Rattle.daybook.specs.Telling.{mark_at}
use Rattle.notation.proofs.Written.{then_text}
use Rattle.semantics.specs.declared.Mark.TheVariants.{In}
use Rattle.std.proofs.Common.{◌≡◌, refl, rules}
use Rattle.table.specs.Tables.{contents_of}
use Rattle.std.proofs.Output.{has_written_of_eq}

pub loop-statement-preserved-then-ne : goal.loop-statement-preserved-then-ne
loop-statement-preserved-then-ne g c = λ plain.
    let other : mark_at c.args.self.now.0.bytes.now c.loop-statement.statement ≡ In → ⊥ = search rules in
    has_written_of_eq _ _ _ _ _ (account_lines_same (contents_of c.args.self.now.0.table).names c.args.self.now.0.bytes.now c.loop-statement.statement other) (c.loop-statement.invariant plain)

pub loop-statement-preserved : goal.loop-statement-preserved
loop-statement-preserved g c = λ plain.
    let present : mark_at c.args.self.now.0.bytes.now c.loop-statement.statement ≡ In = search rules in
    has_written_of_eq _ _ _ _ _ (account_lines_more (contents_of c.args.self.now.0.table).names c.args.self.now.0.bytes.now c.loop-statement.statement present c.name-name.ensures)
    (then_text refl (c.loop-statement.invariant plain) c.in_ok-writeln.ensures.writes)
