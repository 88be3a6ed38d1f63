use Rattle.std.proofs.Common.{rules, ◌==◌}
use Rattle.std.proofs.lemmas.Iterator.{YieldsList-from_slice}
use Rattle.std.proofs.lemmas.Iterator.Search.{any_from_yields_List}
use Rattle.sheet.proofs.findings.Findings.lists.Goals as goal
use Rattle.sheet.specs.Standing.{listed}

pub returns : goal.returns
returns c = any_from_yields_List (λ f. f.statement == c.args.statement) _ _ _ c.any.ensures.ran (YieldsList-from_slice (listed c.args.self.now) (search rules)) (λ x b q k. search rules)
