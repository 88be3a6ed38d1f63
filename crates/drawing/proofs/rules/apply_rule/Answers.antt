use Rattle.drawing.proofs.Applying.{applied_none}
use Rattle.drawing.proofs.Demanding.{body_standing, demanded, refuted_passed}
use Rattle.drawing.proofs.Passes.{counted_refuted, counted_standing}
use Rattle.drawing.proofs.rules.apply_rule.Goals as goal
use Rattle.judging.specs.Rulebooks.{program_in, rule_in}
use Rattle.judging.specs.declared.bodies.Body.TheVariants.{Refuted}
use Rattle.semantics.proofs.Lists.{among_at}
use Rattle.table.specs.View.{no_rule}
use Rattle.std.proofs.Common.{◌≡◌, rules}

pub returns-then-is_refuted : goal.returns-then-is_refuted
returns-then-is_refuted g c =
    let value = g.F.Family.value c.args.book.now.family.now in
    let p = program_in c.args.book.now in
    let m = c.args.marking.now in
    let refuted : c.judge_body-body.result ≡ Refuted = search rules in
    let f = rw refuted at c.judge_body-body.ensures in
    record {
      applied = λ l. applied_none value p m _ (refuted_passed value m _ f);
      counted = λ l. counted_refuted value p.rules c.args.i m c.args.supports.now.by l f;
    }

pub returns : goal.returns
returns g c =
    let value = g.F.Family.value c.args.book.now.family.now in
    let p = program_in c.args.book.now in
    let m = c.args.marking.now in
    let r = rule_in c.args.book.now c.args.i in
    let body = c.judge_body-body.result in
    let other : body ≡ Refuted → ⊥ = search rules in
    record {
      applied = λ l. c.meet.ensures value p r (demanded value m r p (among_at p.rules c.args.i no_rule l) body c.judge_head.result c.judge_body-body.ensures c.judge_head.ensures);
      counted = λ l. counted_standing value p.rules c.args.i m c.args.supports.now.by l c.add_heads.new.self.by (body_standing value m r body other c.judge_body-body.ensures) (c.add_heads.ensures r.head c.rule.ensures.head);
    }
