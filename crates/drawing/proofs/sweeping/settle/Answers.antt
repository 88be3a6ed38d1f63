use Rattle.drawing.proofs.Deriving.{clash_from, derived_on, derived_same, failed_before}
use Rattle.drawing.proofs.Ending.{no_more_open, settled_drawn}
use Rattle.drawing.proofs.sweeping.settle.Goals as goal
use Rattle.judging.specs.Rulebooks.{program_in}
use Rattle.std.proofs.Common.{◌≡◌, rules, sym, ◌∙◌, arith}

pub loop-marking-init : goal.loop-marking-init
loop-marking-init g c = derived_same _ _ _

pub loop-marking-smaller : goal.loop-marking-smaller
loop-marking-smaller g c =
    let fewer = no_more_open (g.F.Family.value c.args.book.now.family.now) (program_in c.args.book.now) c.loop-marking.marking c.sweep.new.marking (simp c.in-Ok.is at c.sweep.ensures).0 in
    let changed : c.open_count.result ≡ c.open_count-open.result → ⊥ = search rules in
    omega (arith, fewer, c.open_count.ensures, c.open_count-open.ensures)

pub loop-marking-preserved : goal.loop-marking-preserved
loop-marking-preserved g c = derived_on _ _ _ _ _ c.loop-marking.invariant (simp c.in-Ok.is at c.sweep.ensures).0

pub returns-in_default : goal.returns-in_default
returns-in_default g c =
    let value = g.F.Family.value c.args.book.now.family.now in
    let p = program_in c.args.book.now in
    let failed = failed_before value p c.args.start c.loop-marking.marking c.loop-marking.invariant c.in_default.ensures in
    record { drawn = clash_from value p c.args.start failed; answers = failed.unanswered }

pub returns-then-is_unchanged : goal.returns-then-is_unchanged
returns-then-is_unchanged g c =
    let value = g.F.Family.value c.args.book.now.family.now in
    let p = program_in c.args.book.now in
    let m = c.loop-marking.marking in
    let swept = simp c.in-Ok.is at c.sweep.ensures in
    let same : c.open_count.result ≡ c.open_count-open.result = search rules in
    record {
      drawn = settled_drawn value p _ m _ c.loop-marking.invariant swept.0 swept.1 (sym c.open_count.ensures ∙ same ∙ c.open_count-open.ensures);
      answers = (derived_on value p _ m _ c.loop-marking.invariant swept.0).agreed;
    }
