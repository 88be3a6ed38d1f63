use Rattle.daybook.proofs.DayLemmas.{lines_said, visits_said}
use Rattle.daybook.proofs.days.Day.read.Goals.{In-None}
use Rattle.daybook.proofs.days.Day.read.Goals as goal
use Rattle.std.proofs.Common.{◌≡◌, ◌∙◌, map}
use Rattle.std.proofs.lemmas.Iterator.Consumers.{YieldsList-at, YieldsList-end, YieldsList-from_enumerate}
use Rattle.std.proofs.lemmas.Iterator.Splits.{YieldsList-from_lines}
use Rattle.std.specs.List.{enumerate_from}
use Rattle.std.specs.Str.Lines.{lines}

all_yielded : (c : In-None) → map (λ p. (p.0, p.1.now)) c.loop-index.yielded ≡ enumerate_from 0 (lines c.args.text.now)
all_yielded c =
    let road = YieldsList-at c.into_iter-index-iterator.ensures.into_iter_gives
    (YieldsList-from_enumerate (YieldsList-at c.enumerate-index-items.ensures.source (YieldsList-from_lines c.args.text.now c.lines.ensures.rest)) c.enumerate-index-items.ensures.count) in
    (YieldsList-end road c.loop-index.yielded _ c.loop-index.yielded_by _ _ c.in-None.is c.next.ensures.steps).0

pub returns-clause-lines : goal.returns-clause-lines
returns-clause-lines c = c.loop-index.invariant.lines ∙ lines_said _ _ _ (all_yielded c)

pub returns-clause-entries : goal.returns-clause-entries
returns-clause-entries c = c.loop-index.invariant.entries ∙ visits_said _ _ _ (all_yielded c)
