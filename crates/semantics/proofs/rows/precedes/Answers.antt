use Rattle.semantics.proofs.Decisions.{first_difference, no_difference, refuted_by}
use Rattle.semantics.proofs.Order.{order}
use Rattle.semantics.proofs.rows.precedes.Goals as goal
use Rattle.std.proofs.Common.{sym, refl, ◌∙◌}

pub returns-then-differ : goal.returns-then-differ
returns-then-differ c = record {
  decided = first_difference c.args.row.now c.args.other.now c.loop-q.q c.loop-q.invariant (λ e. c.if-differ.ensures.0 refl (e ∙ sym c.has.ensures.value));
  order = order;
}

pub returns : goal.returns
returns c = record {
  decided = refuted_by _ (no_difference c.args.row.now c.args.other.now c.loop-q.q c.loop-q-test.false c.loop-q.invariant);
  order = order;
}
