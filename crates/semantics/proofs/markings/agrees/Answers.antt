use Rattle.semantics.proofs.Decisions.{agrees_decided, allowed}
use Rattle.semantics.proofs.Drawing.{steps_sound}
use Rattle.semantics.proofs.markings.agrees.Goals as goal
use Rattle.semantics.specs.Markings.{Agrees}
use Rattle.std.proofs.Common.{rules, sym, subst, Decides}
use Rattle.std.proofs.lemmas.Iterator.{YieldsList-from_slice}
use Rattle.std.proofs.lemmas.Iterator.Consumers.{YieldsList-from_enumerate}
use Rattle.std.proofs.lemmas.Iterator.Search.{all_from_yields_List}

pub returns : goal.returns
returns c =
    let e = all_from_yields_List (allowed c.args.row.now) _ _ _ c.all.ensures.ran (YieldsList-from_enumerate {s = c.enumerate.result} (YieldsList-from_slice c.args.marks.now (search rules)) (search rules)) (λ x b q k. search rules) in
    let decided : Decides c.all.result (Agrees c.args.marks.now c.args.row.now) = subst (λ b. Decides b (Agrees c.args.marks.now c.args.row.now)) (sym e) (agrees_decided c.args.marks.now c.args.row.now) in
    record { decided = decided; sound = λ h. steps_sound _ _ (decided.0 h) }
