-- The six areas, and what the header says of each.
use Rattle.std.specs.Prelude.{ℕ, ◌+◌, List}
use Rattle.layout.specs.Bytes.{word_at}
use Rattle.layout.specs.declared.area.Area.{Area}
use Rattle.layout.specs.declared.area.Area.TheVariants.{Statements, Rules, Literals, Aggregates, Members, Names}

-- the place of the area's count; its offset stands behind it
abbrev pub field_of : Area → ℕ
field_of Statements = 4
field_of Rules = 8
field_of Literals = 12
field_of Aggregates = 16
field_of Members = 20
field_of Names = 24

-- the most records that the area may have
abbrev pub most : Area → ℕ
most Statements = 128
most Rules = 1024
most Literals = 8192
most Aggregates = 1024
most Members = 2048
most Names = 4096

-- the bytes of one record
abbrev pub size : Area → ℕ
size Statements = 4
size Rules = 8
size Literals = 1
size Aggregates = 12
size Members = 8
size Names = 1

abbrev pub count : List ℕ → Area → ℕ
count b a = word_at b (field_of a)

abbrev pub offset : List ℕ → Area → ℕ
offset b a = word_at b (field_of a + 2)
