-- Accounts sought from the marking of findings are accounts of the findings.
use Rattle.std.proofs.Common.{ℕ, List, Option}
use Rattle.semantics.specs.Families.{Values}
use Rattle.semantics.specs.Markings.{noted}
use Rattle.semantics.specs.Programs.{Program}
use Rattle.semantics.specs.Theorems.{Noted}
use Rattle.semantics.specs.declared.Finding.{Finding}
use Rattle.solver.proofs.Finding.{sought_for, weighed_for}
use Rattle.solver.specs.Accounts.{Seeks, SeeksFor, Weighs, WeighsFor}
use Rattle.solver.specs.declared.account.Account.{Account}
use Rattle.solver.specs.declared.weighing.Weighing.{Weighing}

pub earliest_for : (value : Values) (p : Program) (findings : List Finding) (r : Option Account) → Seeks value p (noted p findings) r → Noted p findings → SeeksFor value p findings r
earliest_for value p findings r h n = sought_for value p findings n r h

pub told_for : (value : Values) (p : Program) (findings : List Finding) (q : ℕ) (w : Weighing) → Weighs value p (noted p findings) q w → Noted p findings → WeighsFor value p findings q w
told_for value p findings q w h n = weighed_for value p findings n q w h
