use Rattle.semantics.proofs.AnswerSets.{supported}
use Rattle.semantics.proofs.rows.has.Goals as goal
use Rattle.std.proofs.Common.{sym, ◌∙◌}

pub returns : goal.returns
returns c = record { value = c.place.ensures; supported = λ h. supported c.args.row.now c.args.statement (sym c.place.ensures ∙ h) }
