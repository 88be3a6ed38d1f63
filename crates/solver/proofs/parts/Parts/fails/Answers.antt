use Rattle.semantics.specs.FullMarkings.{row_of}
use Rattle.solver.proofs.Pruning.{fails_told}
use Rattle.solver.proofs.Removing.{own_meets}
use Rattle.solver.proofs.parts.Parts.fails.Goals as goal
use Rattle.solver.specs.Smaller.{rest}
use Rattle.std.proofs.Common.{◌∙◌, sym}
use Rattle.std.proofs.lemmas.Bool.{false≢true}
use Rattle.table.specs.Tables.{nth_rule}

pub returns-in-Some : goal.returns-in-Some
returns-in-Some c = λ whole long.
    fails_told c.args.self.now c.args.i c.args.removed.now whole long (sym c.has.ensures ∙ c.if-not-has.false) c.in-Some.nogood c.in-Some.ensures c.is_below.result c.is_below.ensures

pub returns-in-None : goal.returns-in-None
returns-in-None c = λ whole long.
    let p = c.args.self.now in
    let (q, i, n) = c.in-None.ensures in
    ((λ e. absurd (false≢true e)), λ f. absurd (f.1 (own_meets (row_of p.row.now) (rest (row_of c.args.removed.now)) (nth_rule p.rules.now.table.now c.args.i) q i n)))
