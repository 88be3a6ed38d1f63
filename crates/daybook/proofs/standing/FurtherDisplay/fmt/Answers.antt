use Rattle.daybook.proofs.Further.{further_all, further_more}
use Rattle.daybook.proofs.standing.FurtherDisplay.fmt.Goals as goal
use Rattle.notation.proofs.Written.{then_text}
use Rattle.std.proofs.Common.{false, refl, arith}
use Rattle.std.proofs.Output.{has_written_of_eq}
use Rattle.table.specs.Tables.{contents_of}

pub loop-finding-preserved : goal.loop-finding-preserved
loop-finding-preserved g c = λ plain.
    has_written_of_eq _ _ _ _ _ (further_more (contents_of c.args.self.now.table).names c.args.self.now.findings.now c.loop-finding.finding-index (record { statement = 0; present = false }) (omega arith))
    (then_text refl (c.loop-finding.invariant plain) c.in_ok-write.ensures.writes)

pub returns-clause-writes : goal.returns-clause-writes
returns-clause-writes g c = λ plain ok.
    has_written_of_eq _ _ _ _ _ (further_all (contents_of c.args.self.now.table).names c.args.self.now.findings.now c.loop-finding.finding-index (omega arith)) (c.loop-finding.invariant plain)
