use Rattle.semantics.proofs.Decisions.{below_decided, kept}
use Rattle.semantics.proofs.Drawing.{drawn_once, leads}
use Rattle.semantics.proofs.markings.is_below.Goals as goal
use Rattle.semantics.specs.Markings.{Below}
use Rattle.std.proofs.Common.{rules, sym, subst, Decides}
use Rattle.std.proofs.lemmas.Iterator.{YieldsList-from_slice}
use Rattle.std.proofs.lemmas.Iterator.Consumers.{YieldsList-from_enumerate}
use Rattle.std.proofs.lemmas.Iterator.Search.{all_from_yields_List}

pub returns : goal.returns
returns c =
    let e = all_from_yields_List (kept c.args.more.now) _ _ _ c.all.ensures.ran (YieldsList-from_enumerate {s = c.enumerate.result} (YieldsList-from_slice c.args.marks.now (search rules)) (search rules)) (λ x b q k. search rules) in
    record {
      decided = subst (λ b. Decides b (Below c.args.marks.now c.args.more.now)) (sym e) (below_decided c.args.marks.now c.args.more.now);
      leads = leads _ _;
      once = drawn_once _ _;
    }
