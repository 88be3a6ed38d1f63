use Rattle.std.proofs.Common.{◌≡◌, ◌∙◌, ap, arith, codes, refl, rules, w32}
use Rattle.std.proofs.Output.{has_written_of_eq}
use Rattle.std.proofs.lemmas.Int.{to_z-of_z}
use Rattle.notation.proofs.Grounding.{parting_after, present_same, present_written}
use Rattle.notation.proofs.Written.{then_text}
use Rattle.notation.proofs.grounds.PresentDisplay.fmt.Goals as goal
use Rattle.notation.specs.Pieces.{parting}
use Rattle.notation.specs.Text.{joined}
use Rattle.semantics.specs.Markings.{at}
use Rattle.semantics.specs.declared.Mark.TheVariants.{In}
use Rattle.table.specs.Tables.{contents_of}

pub loop-place-preserved-then-not-has : goal.loop-place-preserved-then-not-has
loop-place-preserved-then-not-has g c =
    let s = c.args.self.now in
    let other : at s.marks.now c.member-member.result.statement ≡ In → ⊥ = search rules in
    let same = present_same (contents_of s.table) s.marks.now s.run.first c.loop-place.place c.member-member.result c.loop-place.auto.place c.member-member.ensures.value other in (
      c.loop-place.invariant.0,
      (λ plain. has_written_of_eq _ _ _ _ _ (ap (joined (codes ", ")) same) (c.loop-place.invariant.1 plain)),
      c.loop-place.invariant.2 ∙ ap parting same,
      omega (arith, c.loop-place-test.true, c.loop-place.auto.place, c.loop-place.auto.place-end),
    )

pub loop-place-preserved : goal.loop-place-preserved
loop-place-preserved g c =
    let s = c.args.self.now in
    let k = c.loop-place.place in
    let a = c.member-member.result in
    let present : at s.marks.now a.statement ≡ In = search rules in (
      search rules,
      (λ plain. has_written_of_eq _ _ _ _ _
          (present_written (contents_of s.table) s.marks.now s.run.first k a c.loop-place.auto.place c.member-member.ensures.value present c.loop-place.separator.now c.name-name.result.now _ c.loop-place.invariant.2 c.name-name.ensures (to_z-of_z w32 a.weight (search rules)))
          (then_text refl (c.loop-place.invariant.1 plain) c.in_ok-write.ensures.writes)),
      parting_after (contents_of s.table) s.marks.now s.run.first k a c.loop-place.auto.place c.member-member.ensures.value present,
      omega (arith, c.loop-place-test.true, c.loop-place.auto.place, c.loop-place.auto.place-end),
    )
