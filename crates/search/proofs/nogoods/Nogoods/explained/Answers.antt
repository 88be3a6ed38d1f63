use Rattle.search.proofs.Following.{follows_either}
use Rattle.search.proofs.nogoods.Nogoods.explained.Goals as goal

pub returns : goal.returns
returns c = rw c.unwrap_or.ensures (follows_either _ c.args.nogood c.in-Some.reason c.resolved.result c.in-Some.ensures c.resolved.ensures)
