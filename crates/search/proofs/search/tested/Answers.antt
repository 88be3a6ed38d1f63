use Rattle.search.proofs.Guessing.{full_earliest, full_nogood}
use Rattle.search.proofs.Levels.{failed_ended, fitting_nogood}
use Rattle.search.proofs.search.tested.Goals as goal

pub returns-in-Fits-clause-ended : goal.returns-in-Fits-clause-ended
returns-in-Fits-clause-ended g c = λ begun full. record {
  sound = begun.sound;
  outcome = full_earliest _ _ _ begun.long full (c.in-Fits.ensures begun.long full);
}

pub returns-in-Fails-clause-ended : goal.returns-in-Fails-clause-ended
returns-in-Fails-clause-ended g c = λ begun full.
    let judged = c.in-Fails.ensures begun.long full in
    failed_ended _ _ _ _ c.in-Fails.nogood _ _ c.failed.result begun.narrows begun.sound
    (fitting_nogood _ _ _ judged.1) (full_nogood _ _ _ begun.long full judged.0) c.failed.ensures.grown c.failed.ensures.follows
