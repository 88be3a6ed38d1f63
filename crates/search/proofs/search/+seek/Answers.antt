use Rattle.search.proofs.Guessing.{narrowed_sought, nogood_none}
use Rattle.search.proofs.Levels.{level_begun}
use Rattle.search.proofs.Narrowing.{met_nogood, turned_fewer, turned_narrows}
use Rattle.search.proofs.search.+seek.Goals as goal
use Rattle.std.proofs.Common.{arith, ◌∙◌}

pub returns-in-Met : goal.returns-in-Met
returns-in-Met g t c = λ long sound.
    let ended = c.in-Failed.ensures.ended (level_begun _ _ _ _ long (rw c.begin.ensures sound)) in
    nogood_none _ _ _ (met_nogood _ _ c.in-Failed.failure.nogood (rw c.in-Met.is at (c.in-Failed.ensures.standing (λ q x e. e))) ended.outcome)

pub seek-requires : goal.seek-requires
seek-requires g t c κs within =
    let lacks = rw c.in-Lacks.is at (c.in-Failed.ensures.standing (λ q x e. e)) in
    (omega (arith, c.decreases, turned_fewer _ c.in-Failed.failure.nogood _ _ lacks c.turned.ensures), within)

pub returns : goal.returns
returns g t c = λ long sound.
    let ended = c.in-Failed.ensures.ended (level_begun _ _ _ _ long (rw c.begin.ensures sound)) in
    let lacks = rw c.in-Lacks.is at (c.in-Failed.ensures.standing (λ q x e. e)) in
    let narrows = turned_narrows _ c.in-Failed.failure.nogood _ _ lacks c.turned.ensures _ ended.outcome in
    narrowed_sought _ _ _ _ narrows _ (c.seek.ensures (narrows.long ∙ long) ended.sound)
