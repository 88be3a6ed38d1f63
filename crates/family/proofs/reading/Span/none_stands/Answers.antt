use Rattle.family.proofs.reading.Span.none_stands.Goals as goal
use Rattle.std.proofs.Common.{not, sym, ap, ◌∙◌}
use Rattle.std.proofs.lemmas.Bool.{not-true}
use Rattle.std.proofs.lemmas.Int.{to_z-of_z}

pub returns : goal.returns
returns c = λ o.
    let f = c.ranges.bound in
    let d = (simp to_z-of_z at c.all_stand.ensures) o in
    (λ e z w. not-true _ (sym (c.opposite.ensures z c.args.bound) ∙ d.0 e z w), λ n. d.1 (λ z w. c.opposite.ensures z c.args.bound ∙ ap not (n z w)))
