-- What the values of the kinds come to.
use Rattle.std.proofs.Common.{◌≡◌, ◌+◌, List, [], ◌++◌, length, ℤ, pos, ◌+ℤ◌, Some, Option, sym, ap, ◌∙◌, arith, length-append}
use Rattle.family.proofs.Extremes.{ExtremesOf, greatest_of, least_of}
use Rattle.family.proofs.Picking.{picked_all, picked_length, picked_none}
use Rattle.family.proofs.Readings.{at_all, at_sure, between, numbers_read}
use Rattle.family.specs.Readings.{Reads, only_numbers}
use Rattle.family.specs.Spans.{Spans, joined}
use Rattle.family.specs.declared.reading.Span.{Span}
use Rattle.house.proofs.Sums.{above_picked, below_picked, picked_sum, total_append}
use Rattle.family.specs.Sums.{above_zero, below_zero, sum_by}
use Rattle.semantics.specs.Families.{greatest, house, least, total}
use Rattle.std.proofs.lemmas.List.{append-nil}
use Rattle.std.proofs.lemmas.Int.{ints}

pub count_reads : (s o : List ℤ) (r : Span) → r.least ≡ pos (length s) → r.greatest ≡ pos (length s + length o) → Reads (house 0) s o (only_numbers r)
count_reads s o r l g =
    numbers_read (house 0) s o r
    ([], picked_none o, ap (λ v. Some (pos (length v))) (append-nil s) ∙ ap Some (sym l))
    (o, picked_all o, ap (λ n. Some (pos n)) (length-append s o) ∙ ap Some (sym g))
    (λ u p. let n = picked_length u o p in (pos (length s + length u), ap (λ n. Some (pos n)) (length-append s u), (omega (arith, ints), omega (arith, ints))))

pub sum_reads : (s o : List ℤ) (r : Span) → r.least ≡ total s +ℤ sum_by below_zero o → r.greatest ≡ total s +ℤ sum_by above_zero o → Reads (house 1) s o (only_numbers r)
sum_reads s o r l g =
    let (u, p, e) = below_picked o in
    let (v, q, f) = above_picked o in
    numbers_read (house 1) s o r
    (u, p, ap Some (omega (arith, ints, total_append s u)))
    (v, q, ap Some (omega (arith, ints, total_append s v)))
    (λ u p. let b = picked_sum u o p in (total s +ℤ total u, ap Some (total_append s u), (omega (arith, ints), omega (arith, ints))))

-- some weights are sure
module _ (s o : List ℤ) (a : Span) (t : Option Span) (h : ExtremesOf s a) (k : Spans t o) where
  pub least_reads : Reads least s o (only_numbers (record { least = (joined a t).least; greatest = a.least }))
  least_reads =
      numbers_read least s o _ (at_all s o a t h k least (λ m. m.least) least_of) (at_sure s o a t h k least (λ m. m.least) least_of)
      (λ u p. let (m, e, b) = between s o a t h k u p in (m.least, least_of (s ++ u) m e, b.0))

  pub greatest_reads : Reads greatest s o (only_numbers (record { least = a.greatest; greatest = (joined a t).greatest }))
  greatest_reads =
      numbers_read greatest s o _ (at_sure s o a t h k greatest (λ m. m.greatest) greatest_of) (at_all s o a t h k greatest (λ m. m.greatest) greatest_of)
      (λ u p. let (m, e, b) = between s o a t h k u p in (m.greatest, greatest_of (s ++ u) m e, b.1))
