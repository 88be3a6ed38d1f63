use Rattle.family.proofs.Readings.{best_open_reads}
use Rattle.house.proofs.Readings.{count_reads, greatest_reads, least_reads, sum_reads}
use Rattle.house.proofs.Sums.{total_of_parts}
use Rattle.house.proofs.reading.HouseKindKind.read.Goals as goal
use Rattle.house.proofs.reading.HouseKindKind.read.Goals.{in_default-None-via-in-Least+in-None, in_default-None-via-in-Greatest+in-None}
use Rattle.semantics.proofs.Families.{greatest_best, least_best}
use Rattle.std.proofs.Common.{arith, w64, SFits, rules}
use Rattle.std.proofs.lemmas.Int.{ints, to_z-of_z}

pub returns-in-Count-default : goal.returns-in-Count-default
returns-in-Count-default c = λ s o h k. simp c.only_numbers.ensures (simp c.in-Count-default.is-0 (count_reads s o _ (omega (arith, ints)) (omega (arith, ints))))

pub returns-in-Sum-default : goal.returns-in-Sum-default
returns-in-Sum-default c = λ s o h k. let t = total_of_parts s in simp c.only_numbers-in-Sum-default.ensures (simp c.in-Sum-default.is-0 (sum_reads s o _ (omega (arith, ints)) (omega (arith, ints))))

pub returns-in_default-None : goal.returns-in_default-None
returns-in_default-None c = λ s o h k.
    elim c.in_default-None.branch [
      | in_default-None-via-in-Least+in-None w ↦ simp c.nothing_or.ensures (simp w.in_default-None.is-0 (simp (simp w.in_default-None.is-1 at h.extremes) (best_open_reads least_best o _ k.extremes)))
      | in_default-None-via-in-Greatest+in-None w ↦ simp c.nothing_or.ensures (simp w.in_default-None.is-0 (simp (simp w.in_default-None.is-1 at h.extremes) (best_open_reads greatest_best o _ k.extremes)))
    ]

pub returns-in-Least-Some : goal.returns-in-Least-Some
returns-in-Least-Some c = λ s o h k.
    let f : SFits w64 c.joined.result.least = search rules in
    let g : SFits w64 c.in-Least-Some.span.least = search rules in
    simp c.only_numbers-in-Least-Some.ensures (simp c.in-Least-Some.is-0
    (simp to_z-of_z (simp c.joined.ensures (least_reads s o c.in-Least-Some.span _ (simp c.in-Least-Some.is-1 at h.extremes) k.extremes))))

pub returns-in-Greatest-Some : goal.returns-in-Greatest-Some
returns-in-Greatest-Some c = λ s o h k.
    let f : SFits w64 c.joined-in-Greatest-Some.result.greatest = search rules in
    let g : SFits w64 c.in-Greatest-Some.span.greatest = search rules in
    simp c.only_numbers-in-Greatest-Some.ensures (simp c.in-Greatest-Some.is-0
    (simp to_z-of_z (simp c.joined-in-Greatest-Some.ensures (greatest_reads s o c.in-Greatest-Some.span _ (simp c.in-Greatest-Some.is-1 at h.extremes) k.extremes))))
