use Rattle.family.proofs.Extremes.{widened_of}
use Rattle.family.proofs.weights.widened.Goals as goal
use Rattle.family.specs.Spans.{alone, joined}
use Rattle.std.proofs.Common.{◌≡◌, ap, ◌∙◌}
use Rattle.std.proofs.lemmas.Int.{to_z-of_z}

pub returns-clause-spans : goal.returns-clause-spans
returns-clause-spans c = λ v h.
    let f = c.ranges.weight in
    let t = c.args.extremes in
    let made : c.joined.result ≡ joined (alone c.args.weight) t = c.joined.ensures ∙ ap (λ s. joined s t) (simp to_z-of_z at c.alone.ensures) in
    rw made (widened_of v c.args.weight t h)
