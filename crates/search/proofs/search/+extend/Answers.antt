use Rattle.search.proofs.Following.{grown_sound}
use Rattle.search.proofs.Levels.{failed_ended, guess_begun, guess_fewer, guess_found, guess_stands, narrowed_ended}
use Rattle.search.proofs.Narrowing.{met_nogood, narrows_back, narrows_on, turned_fewer, turned_narrows}
use Rattle.search.proofs.search.+extend.Given.{Over}
use Rattle.search.proofs.search.+extend.Goals as goal
use Rattle.search.proofs.search.+extend.Goals.{After-guess, In-Failed}
use Rattle.search.specs.Nogoods.{StandingIs}
use Rattle.search.specs.Outcomes.{Begun}
use Rattle.std.proofs.Common.{ℕ, arith, ◌∙◌}

pub returns-in-Err-clause-ended : goal.returns-in-Err-clause-ended
returns-in-Err-clause-ended g t c = λ begun.
    let shown = c.in-Err.ensures.narrowed begun.sound in
    failed_ended _ _ _ _ c.in-Err.nogood _ _ c.failed.result begun.narrows shown.sound shown.narrowed.0 shown.narrowed.1 c.failed.ensures.grown c.failed.ensures.follows

pub returns-in_default-clause-ended : goal.returns-in_default-clause-ended
returns-in_default-clause-ended g t c = λ begun.
    let shown = c.in-Ok.ensures.narrowed begun.sound in
    narrowed_ended _ _ _ _ _ _ shown.narrowed
    (c.tested.ensures.ended (record { long = shown.narrowed.long ∙ begun.long; sound = shown.sound; narrows = narrows_on _ _ _ _ begun.narrows shown.narrowed }) c.in_default.ensures)

-- the level of the guess begins
below : (g : Over) (t : ℕ) (c : After-guess g t)
    → Begun (g.P.Problem.fits c.args.problem.now) (g.P.Problem.size c.args.problem.now) c.args.level.now.whole c.args.memory.now.nogoods.kept c.args.start
    → Begun (g.P.Problem.fits c.args.problem.now) (g.P.Problem.size c.args.problem.now) c.guess.result c.add_guess.new.self.nogoods.kept c.guess.result
below g t c begun =
    let shown = c.in-Ok.ensures.narrowed begun.sound in
    guess_begun _ _ c.in-Ok.marking _ c.in-Some.statement _ _ c.guess.ensures (shown.narrowed.long ∙ begun.long) shown.sound c.add_guess.ensures

-- how the nogood of its failure stands
stands : (g : Over) (t : ℕ) (c : In-Failed g t) → StandingIs c.in-Ok.marking c.in-Failed.failure.nogood c.in-Failed.failure.standing
stands g t c = c.in-Failed.ensures.standing (guess_stands _ _ _ c.in-Some.ensures c.guess.ensures)

pub extend-requires : goal.extend-requires
extend-requires g t c κs within = (omega (arith, c.decreases, guess_fewer c.in-Ok.marking _ c.in-Some.statement c.in-Some.ensures c.guess.ensures _ c.in-Ok.ensures.fewer), within)

pub returns-in-Found-clause-ended : goal.returns-in-Found-clause-ended
returns-in-Found-clause-ended g t c = λ begun.
    let at = goal.at.returns-in-Found-clause-ended g t c in
    let ended = c.in-Found.ensures.ended (below g t at.After-guess begun) in
    let shown = c.in-Ok.ensures.narrowed begun.sound in
    record { sound = ended.sound; outcome = guess_found _ _ _ _ _ c.in-Found.found _ shown.narrowed c.in-Some.ensures c.guess.ensures ended.outcome }

pub returns-in-Some-standing_of-clause-ended : goal.returns-in-Some-standing_of-clause-ended
returns-in-Some-standing_of-clause-ended g t c = λ begun.
    let at = goal.at.returns-in-Some-standing_of-clause-ended g t c in
    let ended = c.in-Failed.ensures.ended (below g t at.After-guess begun) in
    record { sound = rw c.go_back.ensures ended.sound; outcome = ended.outcome }

pub extend-requires-in-Lacks : goal.extend-requires-in-Lacks
extend-requires-in-Lacks g t c κs within =
    let at = goal.at.extend-requires-in-Lacks g t c in
    let lacks = rw c.in-Lacks.is at (stands g t at.In-Failed) in
    (omega (arith, c.decreases, c.in-Ok.ensures.fewer, turned_fewer _ c.in-Failed.failure.nogood _ _ lacks c.turned-turned.ensures), within)

pub returns-in-Met-clause-ended : goal.returns-in-Met-clause-ended
returns-in-Met-clause-ended g t c = λ begun.
    let at = goal.at.returns-in-Met-clause-ended g t c in
    let ended = c.in-Failed.ensures.ended (below g t at.After-guess begun) in
    let shown = c.in-Ok.ensures.narrowed begun.sound in
    let met = rw c.in-Met.is at (stands g t at.In-Failed) in
    failed_ended _ _ _ _ c.in-Failed.failure.nogood _ _ c.failed-in-Met.result begun.narrows (rw c.go_back.ensures ended.sound) ended.outcome
    (narrows_back _ _ _ shown.narrowed (met_nogood _ _ c.in-Failed.failure.nogood met ended.outcome)) c.failed-in-Met.ensures.grown c.failed-in-Met.ensures.follows

pub returns-in-Lacks-clause-ended : goal.returns-in-Lacks-clause-ended
returns-in-Lacks-clause-ended g t c = λ begun.
    let at = goal.at.returns-in-Lacks-clause-ended g t c in
    let ended = c.in-Failed.ensures.ended (below g t at.After-guess begun) in
    let shown = c.in-Ok.ensures.narrowed begun.sound in
    let lacks = rw c.in-Lacks.is at (stands g t at.In-Failed) in
    let narrows = narrows_on _ _ _ _ shown.narrowed (turned_narrows _ c.in-Failed.failure.nogood _ _ lacks c.turned-turned.ensures _ ended.outcome) in
    narrowed_ended _ _ _ _ _ _ narrows (c.extend-in-Lacks.ensures.ended (record {
      long = narrows.long ∙ begun.long;
      sound = grown_sound _ _ (rw c.go_back.ensures ended.sound) c.in-Failed.failure.nogood _ ended.outcome c.record.ensures;
      narrows = narrows_on _ _ _ _ begun.narrows narrows;
    }))
