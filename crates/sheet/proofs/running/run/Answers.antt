use Rattle.sheet.proofs.Made.{all_made, more_made}
use Rattle.sheet.proofs.running.run.Goals as goal
use Rattle.std.proofs.Common.{arith, length}
use Rattle.table.specs.Tables.{contents_of}

pub loop-i-preserved : goal.loop-i-preserved
loop-i-preserved g c =
    more_made (g.F.Family.size c.args.family.now) (g.F.Family.value c.args.family.now) c.args.table.now.bytes.now (length (contents_of c.args.table.now).names) c.loop-i.i c.args.entries.now c.loop-i.entries c.loop-i.sheet c.make.new.sheet c.index-entries-i.result c.make.new.self c.loop-i.invariant c.loop-i-test.true c.make.ensures.made c.make.ensures.standing c.make.ensures.statements

pub returns : goal.returns
returns g c =
    record { law = all_made (g.F.Family.size c.args.family.now) (g.F.Family.value c.args.family.now) c.args.table.now.bytes.now (length (contents_of c.args.table.now).names) c.args.entries.now c.loop-i.entries c.loop-i.i c.loop-i.sheet (omega (arith, c.loop-i-test.false)) c.loop-i.invariant }
