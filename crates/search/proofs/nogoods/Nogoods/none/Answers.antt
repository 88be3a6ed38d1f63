use Rattle.search.proofs.Keeping.{none_kept}
use Rattle.search.proofs.nogoods.Nogoods.none.Goals as goal
use Rattle.search.specs.declared.nogoods.TheConstants.{PLACES}

pub returns : goal.returns
returns c = none_kept PLACES
