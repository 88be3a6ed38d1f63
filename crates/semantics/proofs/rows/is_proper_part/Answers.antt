use Rattle.semantics.proofs.AnswerSets.{antichain}
use Rattle.semantics.proofs.Decisions.{part_decided}
use Rattle.semantics.proofs.rows.is_proper_part.Goals as goal
use Rattle.semantics.proofs.rows.is_proper_part.Goals.{then-part-whole, else-part-whole}
use Rattle.std.proofs.Common.{rules, eqb-true, ◌≡◌, ◌≢◌, ◌∙◌, ◌||◌, not, sym}
use Rattle.std.proofs.lemmas.Bool.{both_ways, not-false, not-true}
use Rattle.std.proofs.lemmas.Iterator.{YieldsList-from_slice, YieldsList-from_zip}
use Rattle.std.proofs.lemmas.Iterator.Search.{all_from_yields_List}
use Rattle.std.specs.Cmp.{booleans_Decides}
use Rattle.std.specs.Cmp.Lexicographic.{pointwise_decides}
use Rattle.std.specs.List.{list_all, zip}

-- the test of all places is made on rows of one length that differ
pub returns-then-ne-clause-decided : goal.returns-then-ne-clause-decided
returns-then-ne-clause-decided c =
    let e : c.all.result ≡ list_all (λ p. not p.0 || p.1) (zip c.args.part.now c.args.whole.now) = all_from_yields_List (λ p. not p.0 || p.1) c.all.new.self _ _ c.all.ensures.ran (YieldsList-from_zip {s = c.zip.result} (YieldsList-from_slice {s = c.zip.result.a} c.args.part.now (search rules)) (YieldsList-from_slice {s = c.zip.result.b} c.args.whole.now (search rules))) (λ x b q k. search rules) in
    elim c.if-part-whole.branch [
      | then-part-whole w ↦
          let differ : c.args.part.now ≢ c.args.whole.now = λ h. both_ways _ (not-true _ (sym w.ne.ensures ∙ (sym w.value-is ∙ c.if-ne.true))) ((pointwise_decides booleans_Decides _ _).1 h) in
          let part = part_decided _ _ w.if-part-whole.true in (
            (λ h. record { long = w.if-part-whole.true; part = part.0 (sym e ∙ h); differs = differ }),
            (λ p. e ∙ part.1 p.part),
          )
      | else-part-whole w ↦ absurd (w.if-part-whole.false (eqb-true _ _ (sym w.value-is ∙ c.if-ne.true)))
    ]

pub returns-then-ne-clause-antichain : goal.returns-then-ne-clause-antichain
returns-then-ne-clause-antichain c = antichain _ _

pub returns-else-ne-clause-decided : goal.returns-else-ne-clause-decided
returns-else-ne-clause-decided c = (
  (λ h. absurd (both_ways _ c.if-ne.false h)),
  elim c.if-part-whole.branch [
    | then-part-whole w ↦ λ p. absurd (p.differs ((pointwise_decides booleans_Decides _ _).0 (not-false _ (sym w.ne.ensures ∙ (sym w.value-is ∙ c.if-ne.false)))))
    | else-part-whole w ↦ λ p. absurd (w.if-part-whole.false p.long)
  ],
)

pub returns-else-ne-clause-antichain : goal.returns-else-ne-clause-antichain
returns-else-ne-clause-antichain c = antichain _ _
