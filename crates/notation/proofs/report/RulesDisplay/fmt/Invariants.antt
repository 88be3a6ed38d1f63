use Rattle.std.proofs.Common.{take}
use Rattle.notation.proofs.report.RulesDisplay.fmt.Given as goal
use Rattle.notation.specs.Shown.{rules_text}
use Rattle.std.specs.Fmt.{HasWritten, IsPlainFormatter}
use Rattle.table.specs.Tables.{contents_of}

abbrev pub invariant-loop-i : goal.invariant-loop-i
invariant-loop-i g l =
    IsPlainFormatter l.initial.f → HasWritten g.W.Write.write_str_gives l.initial.f (rules_text (contents_of l.self.0).names (take l.i (contents_of l.self.0).rules)) l.f
