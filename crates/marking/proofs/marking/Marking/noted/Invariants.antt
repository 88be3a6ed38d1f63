use Rattle.std.proofs.Common.{◌≡◌, min, map, reverse}
use Rattle.marking.proofs.marking.Marking.noted.Given as goal
use Rattle.semantics.specs.Markings.{found}
use Rattle.std.specs.List.{range_with_len}

-- the findings that are done, from the last on, are noted
abbrev pub invariant-loop-finding : goal.invariant-loop-finding
invariant-loop-finding l = l.marking ≡ map (found (reverse (map (λ f. f.now) l.yielded))) (range_with_len 0 (min l.statements 128))
