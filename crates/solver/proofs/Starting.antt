-- The marking of findings, made for a table, is where the accounts of the findings start.
use Rattle.std.proofs.Common.{◌≡◌, ℕ, List, min, map, length, ap, ◌∙◌, arith}
use Rattle.semantics.specs.Markings.{found, noted}
use Rattle.semantics.specs.declared.Finding.{Finding}
use Rattle.semantics.specs.declared.Mark.{Mark}
use Rattle.std.specs.List.{range_with_len}
use Rattle.table.proofs.Limits.{names_few}
use Rattle.table.specs.Contents.{contents, program}

-- a table has no more statements than a marking holds
pub noted_start : (b : List ℕ) (findings : List Finding) (n : ℕ) (m : List Mark) → n ≡ length (contents b).names → m ≡ map (found findings) (range_with_len 0 (min n 128)) → m ≡ noted (program (contents b)) findings
noted_start b findings n m e h =
    let all : min n 128 ≡ length (contents b).names = omega (arith, e, names_few b) in
    h ∙ ap (λ k. map (found findings) (range_with_len 0 k)) all
