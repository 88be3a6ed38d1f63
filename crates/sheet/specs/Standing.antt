-- The findings that a sheet holds.
use Rattle.std.specs.Prelude.{List, take}
use Rattle.semantics.specs.declared.Finding.{Finding}
use Rattle.sheet.specs.declared.findings.Findings.{Findings}

-- the records that stand, in the order in which they were entered
abbrev pub listed : Findings → List Finding
listed f = take f.count f.records
