-- Bytes written as hexadecimal digits.
use Rattle.std.specs.Prelude.{ℕ, ◌+◌, ◌-◌, ◌*◌, ◌&&◌, nat_le, if◌then◌else◌, List, [], ◌∷◌}

-- the value of a digit: `0` to `9` are 48 to 57 and `a` to `f` are 97 to 102; any other letter counts as 0
abbrev pub digit_of : ℕ → ℕ
digit_of letter =
    if nat_le 48 letter && nat_le letter 57 then letter - 48
    else if nat_le 97 letter && nat_le letter 102 then letter - 87
    else 0

-- the bytes of pairs of digits; an odd last digit is dropped
abbrev pub hex_bytes : List ℕ → List ℕ
hex_bytes [] = []
hex_bytes (last ∷ []) = []
hex_bytes (high ∷ low ∷ rest) = (digit_of high * 16 + digit_of low) ∷ hex_bytes rest
