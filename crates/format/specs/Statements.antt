-- Statements and their names.
use Rattle.std.specs.Prelude.{ℕ, zero, suc, ◌+◌, ◌*◌, ◌&&◌, List, ◌++◌, take, drop, ◌==◌, nat_le}
use Rattle.layout.specs.Bytes.{byte_at, word_at}
use Rattle.format.specs.Faults.{when, unless, each}
use Rattle.layout.specs.Areas.{count, offset}
use Rattle.layout.specs.declared.area.Area.TheVariants.{Statements, Names}
use Rattle.refusal.specs.declared.Fault.{Fault}
use Rattle.refusal.specs.declared.Refusal.TheVariants.{WrongNameRun, StatementPadding, NamesUnfilled, NameByte, NameTwice}
use Rattle.std.specs.Str.{bytes_eq}

-- the place of the record of statement i
abbrev pub statement_at : List ℕ → ℕ → ℕ
statement_at b i = offset b Statements + 4 * i

abbrev pub name_start : List ℕ → ℕ → ℕ
name_start b i = word_at b (statement_at b i)

abbrev pub name_length : List ℕ → ℕ → ℕ
name_length b i = byte_at b (statement_at b i + 2)

-- where the name before that of statement i ends
abbrev pub names_end : List ℕ → ℕ → ℕ
names_end b zero = 0
names_end b (suc i) = name_start b i + name_length b i

-- the bytes of the name of statement i
abbrev pub name_at : List ℕ → ℕ → List ℕ
name_at b i = take (name_length b i) (drop (offset b Names + name_start b i) b)

abbrev pub statement_faults : List ℕ → ℕ → List Fault
statement_faults b i =
    unless (nat_le 1 (name_length b i) && (nat_le (name_length b i) 32 && name_start b i == names_end b i)) WrongNameRun (statement_at b i)
    ++ unless (byte_at b (statement_at b i + 3) == 0) StatementPadding (statement_at b i + 3)

-- byte k of the names
abbrev pub name_byte_faults : List ℕ → ℕ → List Fault
name_byte_faults b k =
    unless (nat_le 33 (byte_at b (offset b Names + k)) && nat_le (byte_at b (offset b Names + k)) 126) NameByte (offset b Names + k)

-- statement i has the name of the earlier statement j
abbrev pub same_name_faults : List ℕ → ℕ → ℕ → List Fault
same_name_faults b i j = when (bytes_eq (name_at b j) (name_at b i)) NameTwice (statement_at b i)

abbrev pub name_twice_faults : List ℕ → ℕ → List Fault
name_twice_faults b i = each i (same_name_faults b i)

abbrev pub all_statement_faults : List ℕ → List Fault
all_statement_faults b =
    each (count b Statements) (statement_faults b)
    ++ (unless (names_end b (count b Statements) == count b Names) NamesUnfilled 24
    ++ (each (count b Names) (name_byte_faults b)
    ++ each (count b Statements) (name_twice_faults b)))
