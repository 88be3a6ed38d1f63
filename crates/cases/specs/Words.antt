-- A word of a case line: digits, and behind a `*` how often their bytes come.
use Rattle.std.specs.Prelude.{ℕ, ◌==◌, if◌then◌else◌, List, length, codes}
use Rattle.std.specs.List.{position_or_len, before_first, after_first}
use Rattle.std.specs.Str.Parse.{digits_value, without_leading_plus}

-- all before the first `*`
abbrev pub digits_text : List ℕ → List ℕ
digits_text word = before_first (λ letter. letter == 42) word

-- all behind the first `*`, and `1` where there is none
abbrev pub times_text : List ℕ → List ℕ
times_text word =
    if position_or_len (λ letter. letter == 42) word == length word then codes "1"
    else after_first (λ letter. letter == 42) word

-- the numeral of that text, which may have a plus in front
abbrev pub times_numeral : List ℕ → List ℕ
times_numeral word = without_leading_plus (times_text word)

-- how often the bytes come, if that is a numeral
abbrev pub times_of : List ℕ → ℕ
times_of word = digits_value 10 (times_numeral word)
