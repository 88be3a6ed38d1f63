use Rattle.rulesets.specs.Judging.{program_in}
use Rattle.semantics.specs.AnswerSets.{AnswerSet}
use Rattle.semantics.specs.FullMarkings.{is_in, row_of}
use Rattle.solver.proofs.Judgements.{judged_by}
use Rattle.solver.proofs.Minimal.{minimal_answer, smaller_none}
use Rattle.solver.proofs.seeking.SeekerProblem.test.Goals as goal
use Rattle.std.proofs.Common.{◌∙◌, ap, is_some, sym}
use Rattle.std.proofs.lemmas.Bool.{both_ways, false≢true}
use Rattle.std.proofs.lemmas.List.{length-map}

pub returns-in-Broken : goal.returns-in-Broken
returns-in-Broken g c = λ long full.
    let value = g.F.Family.value c.args.self.now.narrower.judge.family.now in
    let p = program_in c.args.self.now.narrower.judge in
    judged_by (AnswerSet value p) c.args.row.now full (λ s a. a.long ∙ sym long)
    (λ a. both_ways _ (c.in-Broken.ensures (record { full = full; long = long })) a.obeyed)
    c.broken_nogood.result c.broken_nogood.ensures c.failed.result c.failed.ensures

pub returns-in_default : goal.returns-in_default
returns-in_default g c = λ long full.
    let value = g.F.Family.value c.args.self.now.narrower.judge.family.now in
    let p = program_in c.args.self.now.narrower.judge in
    let (reduces, obeys) = c.in-To.ensures (record { full = full; long = long }) in
    minimal_answer value p (row_of c.args.row.now) _ reduces (length-map c.args.row.now is_in ∙ long) obeys
    (λ s. false≢true (sym (ap is_some c.in_default.is) ∙ (c.find_smaller.ensures (record { full = full; long = long })).1 s))

pub returns : goal.returns
returns g c = λ long full.
    let value = g.F.Family.value c.args.self.now.narrower.judge.family.now in
    let p = program_in c.args.self.now.narrower.judge in
    let (reduces, obeys) = c.in-To.ensures (record { full = full; long = long }) in
    judged_by (AnswerSet value p) c.args.row.now full (λ s a. a.long ∙ sym long)
    (λ a. smaller_none value p (row_of c.args.row.now) _ reduces ((c.find_smaller.ensures (record { full = full; long = long })).0 (ap is_some c.in-Some.is)) a)
    c.removal_nogood.result c.removal_nogood.ensures c.failed-2.result c.failed-2.ensures
