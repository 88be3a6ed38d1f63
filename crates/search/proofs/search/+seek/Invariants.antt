use Rattle.marking.specs.Marks.{how_open}
use Rattle.search.proofs.search.+seek.Given as goal

-- each call has fewer statements open
abbrev pub decreases-seek : goal.decreases-seek
decreases-seek g l = how_open l.start
