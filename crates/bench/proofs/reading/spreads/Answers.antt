use Rattle.bench.proofs.Readings.{open_spread_reads, spread_reads}
use Rattle.bench.proofs.reading.spreads.Goals as goal
use Rattle.family.proofs.Extremes.{joined_small}
use Rattle.std.proofs.lemmas.Int.{to_z-of_z}
use Rattle.std.proofs.Common.{w64, SFits, rules}

pub width-requires-in-Some-default-2 : goal.width-requires-in-Some-default-2
width-requires-in-Some-default-2 c =
    simp c.joined.ensures (joined_small c.in-Some-default.span c.args.opens.now.extremes (c.args.sure.now.small _ c.in-Some-default.is-0) c.args.opens.now.small)

pub returns-in-None-Some : goal.returns-in-None-Some
returns-in-None-Some c = λ s o h k.
    let f : SFits w64 c.width.result = search rules in
    simp c.nothing_or-in-None-Some.ensures (simp (simp c.in-None-Some.is-0 at h.extremes)
    (simp to_z-of_z (simp c.width.ensures (open_spread_reads o c.in-None-Some.open (simp c.in-None-Some.is-1 at k.extremes)))))

pub returns-in-Some-default : goal.returns-in-Some-default
returns-in-Some-default c = λ s o h k.
    let f : SFits w64 c.width-in-Some-default.result = search rules in
    let g : SFits w64 c.width-in-Some-default-2.result = search rules in
    simp c.only_numbers.ensures (simp to_z-of_z (simp (c.width-in-Some-default.ensures, c.width-in-Some-default-2.ensures)
    (simp c.joined.ensures (spread_reads s o c.in-Some-default.span _ (simp c.in-Some-default.is-0 at h.extremes) k.extremes))))
