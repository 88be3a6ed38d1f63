use Rattle.std.proofs.Common.{◌≡◌, min, map, sym, ap, ◌∙◌, subst, arith}
use Rattle.drawing.proofs.drawing.start.Goals as goal
use Rattle.semantics.proofs.Findings.{findings_agreed}
use Rattle.semantics.specs.Markings.{Agrees, found, noted}
use Rattle.std.specs.List.{range_with_len}
use Rattle.table.proofs.Limits.{names_few}
use Rattle.table.specs.Contents.{program}
use Rattle.table.specs.Tables.{program_of}

pub returns : goal.returns
returns c =
    let p = program_of c.args.table.now in
    let few = names_few c.args.table.now.bytes.now in
    let all : min c.statements.result 128 ≡ p.statements = omega (arith, c.statements.ensures) in
    let e : c.noted.result ≡ noted p c.args.findings.now = c.noted.ensures ∙ ap (λ n. map (found c.args.findings.now) (range_with_len 0 n)) all in
    record { noted = e; agreed = λ s a. subst (λ m. Agrees m s) (sym e) (findings_agreed p c.args.findings.now s a) }
