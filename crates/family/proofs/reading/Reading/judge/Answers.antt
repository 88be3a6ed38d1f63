use Rattle.family.proofs.Spans.{not_none}
use Rattle.family.specs.Readings.{AllStand}
use Rattle.std.proofs.lemmas.Int.{to_z-of_z}
use Rattle.std.proofs.lemmas.Bool.{not-true}
use Rattle.family.proofs.reading.Reading.judge.Goals as goal

pub returns-then-all_stand : goal.returns-then-all_stand
returns-then-all_stand c = λ o.
    let i = c.in-Some.is in
    let f = c.ranges.bound in
    let l = simp i at o in
    let a : AllStand c.in-Some.span c.args.relation c.args.bound = ((simp to_z-of_z at c.all_stand.ensures) l).0 c.if-all_stand.true in
    (record { never_nothing = not-true _ c.if-not-self.true; stand = simp i a }, λ n. not_none c.in-Some.span c.args.relation c.args.bound l a (simp i at n))
