-- How a reading prints.
use Rattle.family.specs.declared.reading.Reading.{Reading}
use Rattle.family.specs.declared.reading.Span.{Span}
use Rattle.std.specs.Fmt.{signed_decimal}
use Rattle.std.specs.Prelude.{ℕ, Bool, true, false, List, ◌++◌, Some, None, Option, codes}

abbrev pub span_text : Span → List ℕ
span_text s = codes "from " ++ (signed_decimal s.least ++ (codes " to " ++ signed_decimal s.greatest))

-- of a bag that is worth nothing, or not, and the numbers that bags are worth, or none
abbrev pub worth_text : Bool → Option Span → List ℕ
worth_text true None = codes "nothing"
worth_text true (Some s) = codes "nothing, or " ++ span_text s
worth_text false None = codes "no value"
worth_text false (Some s) = span_text s

abbrev pub reading_text : Reading → List ℕ
reading_text r = worth_text r.nothing r.numbers
