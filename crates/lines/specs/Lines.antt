-- The lines of an account, each by itself.
use Rattle.std.specs.Prelude.{ℕ, if◌then◌else◌, List, [], ◌++◌, codes, decimal}
use Rattle.notation.specs.Shown.{newline}
use Rattle.semantics.specs.FullMarkings.{is_in}
use Rattle.semantics.specs.declared.Mark.{Mark}

-- how many statements are in
abbrev pub head : ℕ → List ℕ
head count = codes "account " ++ (decimal count ++ newline)

-- a statement of this mark and name, which has a line if it is in
abbrev pub line : Mark → List ℕ → List ℕ
line mark name = if is_in mark then codes "in " ++ (name ++ newline) else []
