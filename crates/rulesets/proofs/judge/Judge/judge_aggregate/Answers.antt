use Rattle.family.specs.Readings.{Reads}
use Rattle.judging.proofs.Verdicts.{judged, reading_ordered}
use Rattle.rulesets.proofs.judge.Judge.judge_aggregate.Goals as goal
use Rattle.judging.specs.Weights.{open_weights, sure_weights}
use Rattle.std.proofs.lemmas.Int.{ints, to_z-of_z}
use Rattle.rulesets.specs.Judging.{contents_in}
use Rattle.table.specs.View.{no_aggregate}
use Rattle.std.proofs.Common.{get_or, arith, w32, w64, SFits, rules}

pub returns : goal.returns
returns g c =
    let value = g.F.Family.value c.args.self.now.family.now in
    let lawful = g.met.F.Family.lawful c.args.self.now.family.now in
    let m = c.args.marking.now in
    let a = get_or (contents_in c.args.self.now).aggregates c.args.j no_aggregate in
    let shows = c.aggregate-aggregate.ensures in
    let tallied = c.filled-tally.ensures a.members shows.members shows.few in
    let reads : Reads (value a.kind) (sure_weights m a.members) (open_weights m a.members) c.read.result = rw shows.kind (c.read.ensures _ _ _ tallied) in
    let narrow : SFits w32 c.aggregate-aggregate.result.bound = search rules in
    let wide : SFits w64 c.aggregate-aggregate.result.bound = record { sfits = omega (arith, ints) } in
    judged value lawful m a c.read.result reads c.judge.result (rw (shows.relation, shows.bound) ((simp (to_z-of_z, c.from.ensures) at c.judge.ensures) (reading_ordered value lawful m a c.read.result reads)))
