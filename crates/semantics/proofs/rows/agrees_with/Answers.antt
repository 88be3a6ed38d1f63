use Rattle.semantics.proofs.Decisions.{all_decides, confirms_decides}
use Rattle.semantics.proofs.Findings.{noted_agrees}
use Rattle.semantics.proofs.rows.agrees_with.Goals as goal
use Rattle.semantics.specs.AnswerSets.{AgreesWith}
use Rattle.semantics.specs.Tests.{confirms}
use Rattle.std.proofs.Common.{rules, subst, sym, Decides}
use Rattle.std.proofs.lemmas.Iterator.{YieldsList-from_slice}
use Rattle.std.proofs.lemmas.Iterator.Search.{all_from_yields_List}

pub returns-clause-decided : goal.returns-clause-decided
returns-clause-decided c =
    let e = all_from_yields_List (confirms c.args.row.now) _ _ _ c.all.ensures.ran (YieldsList-from_slice c.args.findings.now (search rules)) (λ x b q k. search rules) in
    subst (λ b. Decides b (AgreesWith c.args.findings.now c.args.row.now)) (sym e) (all_decides _ _ (confirms_decides c.args.row.now) c.args.findings.now)

pub returns-clause-noted : goal.returns-clause-noted
returns-clause-noted c = noted_agrees
