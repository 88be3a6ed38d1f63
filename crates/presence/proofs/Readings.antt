-- What the values of the kind come to.
use Rattle.std.proofs.Common.{◌≡◌, ℕ, zero, suc, ◌+◌, ◌<◌, min, List, [], length, ℤ, pos, Some, None, refl, sym, ap, ◌∙◌, arith, length-append}
use Rattle.family.proofs.Picking.{picked_all, picked_length, picked_none}
use Rattle.family.proofs.Readings.{nothing_reads, numbers_read}
use Rattle.family.specs.Readings.{Reads, nothing_or, only_numbers}
use Rattle.family.specs.declared.reading.Span.{Span}
use Rattle.presence.specs.Values.{presence}
use Rattle.std.proofs.lemmas.Int.{ints}
use Rattle.std.proofs.lemmas.List.{append-nil}

-- of the kind 0: no open weight is least, and all of them greatest
pub known_reads : (k : ℕ) (s o : List ℤ) (r : Span) → k ≡ 0 → r.least ≡ pos (min (length s) 1) → r.greatest ≡ pos (min (length s + length o) 1) → Reads (presence k) s o (only_numbers r)
known_reads zero s o r e l g =
    numbers_read (presence 0) s o r
    ([], picked_none o, ap (λ v. Some (pos (min (length v) 1))) (append-nil s) ∙ ap Some (sym l))
    (o, picked_all o, ap (λ n. Some (pos (min n 1))) (length-append s o) ∙ ap Some (sym g))
    (λ u p. let n = picked_length u o p in (pos (min (length s + length u) 1), ap (λ n. Some (pos (min n 1))) (length-append s u), (omega (arith, ints), omega (arith, ints))))
known_reads (suc k) s o r e l g = absurd (omega (arith, e))

-- every bag is worth nothing to another
pub lacking_reads : (k : ℕ) (s o : List ℤ) → 0 < k → Reads (presence k) s o (nothing_or None)
lacking_reads zero s o l = absurd (omega (arith, l))
lacking_reads (suc k) s o l = nothing_reads (presence (suc k)) s o (λ v. refl)
