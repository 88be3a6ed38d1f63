use Rattle.marking.proofs.Noting.{none_noted, noted_next}
use Rattle.marking.proofs.marking.Marking.noted.Goals as goal
use Rattle.std.proofs.Common.{◌∙◌}

pub loop-finding-init : goal.loop-finding-init
loop-finding-init c = c.all_open-marking.ensures ∙ none_noted _

pub loop-finding-preserved : goal.loop-finding-preserved
loop-finding-preserved c = noted_next _ c.loop-finding.yielded c.in-Some.finding _ _ _ c.loop-finding.invariant c.from.ensures c.set.ensures
