use Rattle.format.proofs.Verdicts.{ends_clean, goes_past, leaves_here, leaves_last}
use Rattle.format.proofs.check.check.Goals as goal
use Rattle.std.proofs.Common.{rules}

pub returns-in_err-check_header : goal.returns-in_err-check_header
returns-in_err-check_header c = leaves_here _ _ c.from_residual.ensures.1 _ _ _ c.in_err-check_header.ensures

pub returns-in_err-check_aggregates : goal.returns-in_err-check_aggregates
returns-in_err-check_aggregates c = search (rules, goes_past, leaves_here _ _ c.from_residual-in_err-check_aggregates.ensures.1)

pub returns-in_err-check_members : goal.returns-in_err-check_members
returns-in_err-check_members c = search (rules, goes_past, leaves_last)

pub returns : goal.returns
returns c = search (rules, goes_past, ends_clean)
