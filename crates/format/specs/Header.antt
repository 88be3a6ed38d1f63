-- The header: format, length, and a count and an offset for each area.
use Rattle.std.specs.Prelude.{ℕ, ◌+◌, ◌*◌, List, ◌++◌, length, ◌==◌, nat_le}
use Rattle.format.specs.Faults.{unless}
use Rattle.layout.specs.Areas.{count, field_of, most, offset, size}
use Rattle.layout.specs.Bytes.{word_at}
use Rattle.layout.specs.declared.area.Area.{Area}
use Rattle.layout.specs.declared.area.Area.TheVariants.{Statements, Rules, Literals, Aggregates, Members, Names}
use Rattle.refusal.specs.declared.Fault.{Fault}
use Rattle.refusal.specs.declared.Refusal.TheVariants.{TooShort, WrongFormat, WrongLength, CountTooLarge, WrongOffset, NamesNotLast}

abbrev pub area_end : List ℕ → Area → ℕ
area_end b a = offset b a + size a * count b a

-- where the part before the area ends
abbrev pub end_before : List ℕ → Area → ℕ
end_before b Statements = 28
end_before b Rules = area_end b Statements
end_before b Literals = area_end b Rules
end_before b Aggregates = area_end b Literals
end_before b Members = area_end b Aggregates
end_before b Names = area_end b Members

abbrev pub count_faults : List ℕ → Area → List Fault
count_faults b a = unless (nat_le (count b a) (most a)) CountTooLarge (field_of a)

abbrev pub offset_faults : List ℕ → Area → List Fault
offset_faults b a = unless (offset b a == end_before b a) WrongOffset (field_of a + 2)

-- the six areas in turn
abbrev pub every_area : (Area → List Fault) → List Fault
every_area f = f Statements ++ (f Rules ++ (f Literals ++ (f Aggregates ++ (f Members ++ f Names))))

abbrev pub header_faults : List ℕ → List Fault
header_faults b =
    unless (nat_le 28 (length b)) TooShort (length b)
    ++ (unless (word_at b 0 == 1) WrongFormat 0
    ++ (unless (word_at b 2 == length b) WrongLength 2
    ++ (every_area (count_faults b)
    ++ (every_area (offset_faults b)
    ++ unless (area_end b Names == length b) NamesNotLast 24))))
