use Rattle.search.proofs.Following.{grown_sound}
use Rattle.search.proofs.Narrowing.{met_nogood, narrows_back, narrows_on, turned_fewer, turned_narrows}
use Rattle.search.proofs.search.narrow.Goals as goal
use Rattle.std.proofs.Common.{arith}

pub loop-nogood-smaller : goal.loop-nogood-smaller
loop-nogood-smaller g c = turned_fewer _ _ _ _ (rw c.in-Some-Lacks.field-0-is at c.in-Some-Lacks.ensures) c.turned-marking.ensures

pub loop-nogood-preserved : goal.loop-nogood-preserved
loop-nogood-preserved g c =
    let lacks = rw c.in-Some-Lacks.field-0-is at c.in-Some-Lacks.ensures in (
      omega (arith, c.loop-nogood.invariant.0, turned_fewer c.loop-nogood.marking c.in-Some.nogood c.turned-marking.result c.in-Some-Lacks.statement lacks c.turned-marking.ensures),
      λ before.
          let known = c.loop-nogood.invariant.1 before in
          let nogood = c.in-Some.ensures.nogood known.0 in (
            grown_sound c.next_nogood.new.memory.nogoods.kept _ (rw c.in-Some.ensures.same known.0) c.in-Some.nogood c.record.new.self.nogoods.kept nogood c.record.ensures,
            narrows_on _ c.args.start c.loop-nogood.marking c.turned-marking.result known.1 (turned_narrows c.loop-nogood.marking c.in-Some.nogood c.turned-marking.result c.in-Some-Lacks.statement lacks c.turned-marking.ensures _ nogood),
          ),
    )

pub returns-in-Some-Met-clause-narrowed : goal.returns-in-Some-Met-clause-narrowed
returns-in-Some-Met-clause-narrowed g c = λ before.
    let known = c.loop-nogood.invariant.1 before in
    let nogood = c.in-Some.ensures.nogood known.0 in
    record {
      sound = rw c.in-Some.ensures.same known.0;
      narrowed = (nogood, narrows_back _ _ _ known.1 (met_nogood _ _ c.in-Some.nogood (rw c.in-Some-Met.field-0-is at c.in-Some-Met.ensures) nogood));
    }
