-- Tests of one mark or one finding, case by case.
use Rattle.semantics.specs.Rows.{has}
use Rattle.semantics.specs.declared.Finding.{Finding}
use Rattle.semantics.specs.declared.Mark.{Mark}
use Rattle.semantics.specs.declared.Mark.TheVariants.{Open, In, Out}
use Rattle.std.specs.Prelude.{Bool, true, false, if◌then◌else◌, not, List}

-- whether a statement with this mark may be in (true) or out (false)
abbrev pub allows : Mark → Bool → Bool
allows Open x = true
allows In x = x
allows Out x = not x

-- whether a mark is kept by another: an open one by any, the others by themselves
abbrev pub is_kept : Mark → Mark → Bool
is_kept Open by = true
is_kept In Open = false
is_kept In In = true
is_kept In Out = false
is_kept Out Open = false
is_kept Out In = false
is_kept Out Out = true

-- whether a row has a statement that was found present, or lacks one that was found absent
abbrev pub confirms : List Bool → Finding → Bool
confirms s f = if f.present then has s f.statement else not (has s f.statement)
