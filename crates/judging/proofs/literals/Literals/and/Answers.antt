use Rattle.judging.proofs.literals.Literals.and.Goals as goal
use Rattle.semantics.specs.declared.Mark.TheVariants.{Open}
use Rattle.std.proofs.Common.{◌≡◌, rules, sym, ◌∙◌}

pub returns-then-eq : goal.returns-then-eq
returns-then-eq c = λ m ls e h.
    let unmarked : c.args.mark ≡ Open = search rules in
    c.and_open.ensures m ls (sym unmarked ∙ e) h
