-- What sets of statements say of the marks of the statements of a rule.
use Rattle.judging.specs.Bodies.{AllCertain}
use Rattle.marking.specs.declared.set.Set.{Set}
use Rattle.rulesets.specs.Judging.{AllMarked}
use Rattle.rulesets.specs.Rulesets.{IsSet}
use Rattle.semantics.proofs.Lists.{any_from, any_one}
use Rattle.semantics.specs.Families.{Values}
use Rattle.semantics.specs.Lists.{Among}
use Rattle.semantics.specs.Markings.{BodyCertain, at, literals, marked}
use Rattle.semantics.specs.Programs.{Rule}
use Rattle.semantics.specs.declared.Mark.{Mark}
use Rattle.semantics.specs.declared.Mark.TheVariants.{In, Out}
use Rattle.std.proofs.Common.{◌≡◌, ◌∙◌, ◌==◌, ◌↔◌, ℕ, Bool, false, true, List, refl, subst, sym}
use Rattle.std.proofs.lemmas.Bool.{eq-eqb, eqb-true}

-- the statements of a set have the mark that those of its list have
pub set_marked : (m : List Mark) (v : Mark) (s : Set) (qs : List ℕ) → IsSet s qs → AllMarked m v s ↔ ((q : ℕ) → Among q qs → at m q ≡ v)
set_marked m v s qs is = (
  (λ h q i. h q (is q ∙ any_from (λ p. p == q) qs q i (eq-eqb q q refl))),
  λ h q e. let (p, i, f) = any_one (λ p. p == q) qs (sym (is q) ∙ e) in h q (subst (λ x. Among x qs) (eqb-true p q f) i),
)

-- a body is certain where its positives are in, its negatives out and its aggregates certain
pub body_certain : (value : Values) (m : List Mark) (r : Rule) → ((q : ℕ) → Among q r.positive → at m q ≡ In) → ((q : ℕ) → Among q r.negative → at m q ≡ Out) → AllCertain value m r.aggregates → BodyCertain value m r
body_certain value m r p n a = record { literal = literal; aggregate = a }
  where
    literal : (q : ℕ) (x : Bool) → Among q (literals r x) → at m q ≡ marked x
    literal q true i = p q i
    literal q false i = n q i
