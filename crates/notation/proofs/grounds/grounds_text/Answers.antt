use Rattle.notation.proofs.Grounding.{members_suffice}
use Rattle.notation.proofs.grounds.grounds_text.Goals as goal
use Rattle.semantics.specs.FullMarkings.{row_of}

pub returns-clause-same : goal.returns-clause-same
returns-clause-same c = members_suffice (row_of c.args.marks.now)
