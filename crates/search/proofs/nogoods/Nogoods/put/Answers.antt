use Rattle.search.proofs.Keeping.{put_grown}
use Rattle.search.proofs.nogoods.Nogoods.put.Goals as goal

pub returns-then-place-lt-PLACES : goal.returns-then-place-lt-PLACES
returns-then-place-lt-PLACES c = put_grown _ _ _
