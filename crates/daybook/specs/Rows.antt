-- The latest account, as a contract sees it: the number of its line, and its row.
use Rattle.std.specs.Prelude.{ℕ, List, Some, None, Option}
use Rattle.daybook.specs.declared.reasons.Found.{Found}

abbrev pub found_seen : Option Found → Option (ℕ × List ℕ)
found_seen None = None
found_seen (Some found) = Some (found.line, found.row.now)
