use Rattle.rulesets.proofs.Filling.{filled_all, filled_more, filled_none}
use Rattle.rulesets.proofs.rulesets.read_aggregates.Goals as goal
use Rattle.std.proofs.Common.{arith, refl}
use Rattle.std.proofs.lemmas.List.{get_or_past}
use Rattle.table.specs.Tables.{contents_of}
use Rattle.table.specs.View.{no_aggregate}

pub loop-j-init : goal.loop-j-init
loop-j-init c =
    filled_none _ 1024 _ _
    (λ k l past. rw (get_or_past (contents_of c.args.table.now).aggregates k no_aggregate past)
    (record { kind = refl; relation = refl; bound = refl; members = record { part = refl; forward = omega arith; inside = omega arith }; few = omega arith }))

pub loop-j-preserved : goal.loop-j-preserved
loop-j-preserved c = filled_more _ 1024 _ _ c.loop-j.j c.aggregate.result (omega arith) c.loop-j.invariant c.aggregate.ensures

pub returns : goal.returns
returns c = filled_all _ 1024 _ c.loop-j.aggregates c.loop-j.j c.loop-j.invariant (omega arith)
