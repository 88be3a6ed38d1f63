use Rattle.marking.specs.Marks.{how_open}
use Rattle.search.proofs.search.+extend.Given as goal

-- each call has fewer statements open
abbrev pub decreases-extend : goal.decreases-extend
decreases-extend g l = how_open l.start
