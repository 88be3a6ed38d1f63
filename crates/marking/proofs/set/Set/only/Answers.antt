use Rattle.std.proofs.Common.{sym, ◌∙◌}
use Rattle.marking.proofs.Digits.{none_alone, several_alone}
use Rattle.marking.proofs.set.Set.only.Goals as goal

-- a set of nothing
pub returns-in_err-first : goal.returns-in_err-first
returns-in_err-first c = rw c.from_residual.ensures (none_alone c.args.self c.in_err-first.ensures)

-- a set of more than its first statement
pub returns-else-eq : goal.returns-else-eq
returns-else-eq c = several_alone c.args.self c.single.result c.in_ok-first.first c.in_ok-first.ensures.0 c.in_ok-first.ensures.1 c.single.ensures (sym c.eq.ensures ∙ c.if-eq.false)
