use Rattle.search.proofs.Keeping.{known_at}
use Rattle.search.proofs.nogoods.Nogoods.get.Goals as goal
use Rattle.std.proofs.Common.{None, sym}

pub returns : goal.returns
returns c = known_at c.args.self.now.kept c.args.place _ (sym (c.in_ok-get.ensures.lookup.3.1 None))
