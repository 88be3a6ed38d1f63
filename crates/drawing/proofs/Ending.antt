-- How a sweep, and a run of sweeps, end.
use Rattle.std.proofs.Common.{◌≡◌, ℕ, ◌<◌, ◌≤◌, Bool, List, length, get_or, replicate, Some, None, Option, Result, sym, subst, arith}
use Rattle.drawing.proofs.Applying.{applied_on, applied_weaker}
use Rattle.drawing.proofs.Demanding.{passed_settled}
use Rattle.drawing.proofs.Deriving.{derived_on, drawn_from}
use Rattle.drawing.specs.Applying.{Applied}
use Rattle.drawing.specs.Deriving.{Derived}
use Rattle.drawing.specs.Drawings.{KeepsAccounts, KeepsAnswers, TheDrawing}
use Rattle.drawing.specs.Passing.{RulePassed}
use Rattle.drawing.specs.Sweeps.{AllStanding, Counted, RulesApplied, StatementsPassed}
use Rattle.drawing.specs.declared.forcing.Clash.{Clash}
use Rattle.drawing.specs.declared.supports.Support.{Support}
use Rattle.drawing.specs.declared.supports.Support.TheVariants.{Unsupported}
use Rattle.marking.proofs.Counting.{below_fewer, below_same}
use Rattle.marking.specs.Marks.{how_open}
use Rattle.marking.specs.declared.marking.Marking.{Marking}
use Rattle.semantics.proofs.Drawing.{drawn_once}
use Rattle.semantics.proofs.Lists.{among_place}
use Rattle.semantics.specs.AnswerSets.{AgreesWith}
use Rattle.semantics.specs.Families.{Values}
use Rattle.semantics.specs.Markings.{Agrees, Settled}
use Rattle.semantics.specs.Programs.{Program}
use Rattle.semantics.specs.declared.Finding.{Finding}
use Rattle.semantics.specs.declared.Mark.{Mark}
use Rattle.std.proofs.lemmas.List.{get_or-replicate, length-replicate}
use Rattle.table.specs.View.{no_rule}

module _ (value : Values) (p : Program) where
  -- before any rule, no statement has support
  module _ (m : List Mark) (by : List Support) (none : by ≡ replicate 128 Unsupported) where
    unsupported_yet : (q : ℕ) → q < length by → get_or by q Unsupported ≡ Unsupported
    unsupported_yet q l = let e = length-replicate 128 Unsupported in rw none (get_or-replicate 128 q Unsupported Unsupported (omega (arith, subst (λ s. q < length s) none l)))

    pub none_counted : Counted value p.rules 0 m by
    none_counted q l = rw (unsupported_yet q l) (λ j o k. absurd (omega arith))

    pub none_standing : AllStanding value p.rules m by
    none_standing q l = rw (unsupported_yet q l) tt

  -- both passes
  pub swept : (m n k : List Mark) (by : List Support) (r : Result (Unit {0}) Clash) → RulesApplied value p (length p.rules) m n by → Applied value p n k r (StatementsPassed value p.rules n by) → Applied value p m k r (Settled value p.rules m)
  swept m n k by r h a =
      applied_weaker value p m k _ _ r settled (applied_on value p m n k (EachRule × AllStanding value p.rules m by) (λ l. StatementsPassed value p.rules l by) r h.derived (λ e. (h.passed e, h.standing e)) a)
    where
      EachRule : Type 0
      EachRule = (j : ℕ) → j < length p.rules → RulePassed value m (get_or p.rules j no_rule)

      settled : (EachRule × AllStanding value p.rules m by) × StatementsPassed value p.rules m by → Settled value p.rules m
      settled ((each, standing), statements) =
          passed_settled value p.rules m
          (λ g a. let at = among_place p.rules g a in subst (RulePassed value m) (at.2 no_rule) (each at.0 at.1))
          (statements standing)

  -- a sweep leaves no more statements open
  pub no_more_open : (m n : List Mark) → Derived value p m n → how_open n ≤ how_open m
  no_more_open m n d = below_fewer m n d.long d.adds

  the_drawing : (start m : List Mark) → Derived value p start m → Settled value p.rules m → TheDrawing value p.rules start m
  the_drawing start m d st = record { drawn = drawn_from value p start m d st; only = λ n e. drawn_once n m value p.rules start e (drawn_from value p start m d st) }

  -- so the last sweep of a run ends it
  pub settled_drawn : (start m n : List Mark) → Derived value p start m → Derived value p m n → (n ≡ m → Settled value p.rules m) → how_open n ≡ how_open m → TheDrawing value p.rules start n
  settled_drawn start m n d s st e =
      let same : n ≡ m = below_same m n s.long s.adds e in
      the_drawing start n (derived_on value p start m n d s) (subst (Settled value p.rules) (sym same) (st same))

  -- what is kept of the answer sets that agree with a start is kept of the accounts of findings that the start allows
  pub accounts_kept : (findings : List Finding) (start : List Mark) → ((s : List Bool) → AgreesWith findings s → Agrees start s) → (r : Option Marking) → KeepsAnswers value p start r → KeepsAccounts value p findings r
  accounts_kept findings start a (Some m) k = λ s c. k s c.answer (a s c.fits)
  accounts_kept findings start a None k = λ s c. k s c.answer (a s c.fits)
