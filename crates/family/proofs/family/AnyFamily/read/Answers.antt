use Rattle.family.proofs.Numbers.{kind_is}
use Rattle.family.proofs.Readings.{nothing_reads}
use Rattle.family.proofs.family.AnyFamily.read.Goals as goal

pub returns-in-Some : goal.returns-in-Some
returns-in-Some g c = λ k s o h. let e = simp c.in-Some.is at (kind_is _ _ g.met.F.Kind.Kind.numbers k _ h.kind) in rw e at (c.read.ensures s o h.sure h.opens)

pub returns-in-None : goal.returns-in-None
returns-in-None g c = λ k s o h. let l = simp c.in-None.is at (kind_is _ _ g.met.F.Kind.Kind.numbers k _ h.kind) in simp c.nothing_or.ensures (nothing_reads _ s o (λ v. g.met.F.Kind.Kind.lawful.family.lacking k v l))
