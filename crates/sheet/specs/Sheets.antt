-- What a sheet holds.
use Rattle.std.specs.Prelude.{List}
use Rattle.semantics.specs.declared.Finding.{Finding}
use Rattle.sheet.specs.Standing.{listed}
use Rattle.sheet.specs.declared.sheet.Sheet.{Sheet}

-- the findings that stand, in the order in which they were entered
abbrev pub standing : Sheet → List Finding
standing s = listed s.findings
