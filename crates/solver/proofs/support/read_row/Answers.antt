use Rattle.std.proofs.Common.{◌∙◌, ap, arith, length, min}
use Rattle.std.proofs.lemmas.List.{length-replicate, length-set}
use Rattle.semantics.specs.declared.Mark.TheVariants.{Open}
use Rattle.solver.proofs.Supporting.{row_filled, row_more}
use Rattle.solver.proofs.support.read_row.Goals as goal
use Rattle.table.proofs.Limits.{names_few}

pub loop-statement-init : goal.loop-statement-init
loop-statement-init c = record {
  long = ap length c.all_open-row.ensures ∙ length-replicate (min c.statements.result 128) Open ∙ omega (arith, c.statements.ensures, names_few c.args.table.now.bytes.now);
  done = λ k l. absurd (omega (arith, l));
}

pub loop-statement-preserved : goal.loop-statement-preserved
loop-statement-preserved c = record {
  long = ap length c.set.ensures ∙ length-set c.loop-statement.row c.loop-statement.statement c.from.result ∙ c.loop-statement.invariant.long;
  done = row_more 0 c.args.bytes.now c.loop-statement.row c.set.new.self c.loop-statement.statement c.has_one.result c.from.result
      (omega (arith, c.loop-statement-test.true, c.statements-statement-end.ensures, c.loop-statement.auto.statement-end, c.loop-statement.invariant.long)) c.set.ensures c.from.ensures c.has_one.ensures c.loop-statement.invariant.done;
}

pub returns : goal.returns
returns c = row_filled _ c.args.bytes.now c.loop-statement.row c.loop-statement.invariant.long
    (λ k l. c.loop-statement.invariant.done k (omega (arith, l, c.loop-statement-test.false, c.loop-statement.auto.statement-end, c.statements-statement-end.ensures)))
