-- Marking what is wanted derives a marking; what is wanted against a mark, and a broken rule, are a failure.
use Rattle.std.proofs.Common.{◌≡◌, ℕ, ◌<◌, Bool, false, not, List, length, set, sym, refl, ◌∙◌, subst, arith}
use Rattle.drawing.specs.Deriving.{Consistent, Derived, Failed, Wanted}
use Rattle.semantics.proofs.Drawing.{reached_adds, reached_length, reached_on}
use Rattle.semantics.proofs.Marks.{mark_adds, mark_keeps, not_itself, same_marking}
use Rattle.semantics.proofs.Monotone.{broken_stays, forced_above, forced_stays}
use Rattle.semantics.proofs.Sound.{forced_holds, not_broken}
use Rattle.semantics.specs.AnswerSets.{AnswerSet}
use Rattle.semantics.specs.Families.{Values}
use Rattle.semantics.specs.Markings.{Agrees, Below, Broken, Clash, Drawn, Forces, Settled, at, here, marked, then}
use Rattle.semantics.specs.Programs.{Program}
use Rattle.semantics.specs.Rows.{has}
use Rattle.semantics.specs.declared.Mark.{Mark}
use Rattle.semantics.specs.declared.Mark.TheVariants.{Open}
use Rattle.std.proofs.lemmas.List.{length-set}

module _ (value : Values) (p : Program) where
  -- what is forced stays so in a consistent marking above
  forced_on : (m n : List Mark) → Below m n → Consistent value p n → {q : ℕ} {x : Bool} → Forces value p.rules m q x → Forces value p.rules n q x
  forced_on m n b c = forced_stays value p.rules m n b (λ q e. c.agreed q false e)

  -- a marking below a consistent one is consistent
  pub consistent_below : (m n : List Mark) → Below m n → Consistent value p n → Consistent value p m
  consistent_below m n b c = record {
    whole = λ h. c.whole (broken_stays value m n b p.rules h);
    agreed = λ q x e f. c.agreed q x (b q (not x) e) (forced_on m n b c f);
  }

  pub settled_consistent : (m : List Mark) → Settled value p.rules m → Consistent value p m
  settled_consistent m st = record { whole = st.whole; agreed = st.agreed }

  pub answered_consistent : (m : List Mark) (s : List Bool) → AnswerSet value p s → Agrees m s → Consistent value p m
  answered_consistent m s a ag = record {
    whole = not_broken value m s ag p a;
    agreed = λ q x e f. not_itself x (sym (forced_holds value m s ag p a f) ∙ ag q (not x) e);
  }

  pub wanted_stays : (m n : List Mark) → Below m n → (q : ℕ) (x : Bool) → Wanted value p m q x → Wanted value p n q x
  wanted_stays m n b q x w c = forced_on m n b c (w (consistent_below m n b c))

  pub derived_same : (m : List Mark) → Derived value p m m
  derived_same m = record { long = refl; adds = λ q x e. e; reached = λ c. here; under = λ top st l b. b; agreed = λ s a ag. ag }

  pub derived_on : (m n k : List Mark) → Derived value p m n → Derived value p n k → Derived value p m k
  derived_on m n k d e = record {
    long = e.long ∙ d.long;
    adds = λ q x h. e.adds q x (d.adds q x h);
    reached = λ c. reached_on value p.rules m n (d.reached (consistent_below n k e.adds c)) (e.reached c);
    under = λ top st l b. e.under top st (l ∙ sym d.long) (d.under top st l b);
    agreed = λ s a ag. e.agreed s a (d.agreed s a ag);
  }

  -- nothing was marked on the way from a marking back to itself
  pub derived_between : (m n k : List Mark) → Derived value p m n → Derived value p n k → k ≡ m → n ≡ m
  derived_between m n k d e f = same_marking n m d.long (subst (Below n) f e.adds) d.adds

  -- an open statement is marked as it is wanted
  module _ (m : List Mark) (q : ℕ) (x : Bool) (l : q < length m) (o : at m q ≡ Open) (w : Wanted value p m q x) where
    adds : Below m (set m q (marked x))
    adds = mark_adds m q x o

    pub derived_mark : Derived value p m (set m q (marked x))
    derived_mark = record {
      long = length-set m q (marked x);
      adds = adds;
      reached = λ c. then m _ here (record { statement = q; becomes = x; inside = l; was_open = o; forced = w (consistent_below m _ adds c); next = refl });
      under = λ top st k b. mark_keeps m q x l (λ r y. at top r ≡ marked y) b (forced_above value p.rules m top q x st b (omega arith) (w (consistent_below m top b (settled_consistent top st))));
      agreed = λ s a ag. mark_keeps m q x l (λ r y. has s r ≡ y) ag (forced_holds value m s ag p a (w (answered_consistent m s a ag)));
    }

  -- no consistent marking lies above one that is not consistent
  pub failed_inconsistent : (m : List Mark) → (Consistent value p m → ⊥) → Failed value p m
  failed_inconsistent m n = record {
    unsettled = λ top st l b. n (consistent_below m top b (settled_consistent top st));
    unanswered = λ s a ag. n (answered_consistent m s a ag);
  }

  pub failed_broken : (m : List Mark) → Broken value p.rules m → Failed value p m
  failed_broken m h = failed_inconsistent m (λ c. c.whole h)

  pub failed_against : (m : List Mark) (q : ℕ) (x : Bool) → Wanted value p m q x → at m q ≡ marked (not x) → Failed value p m
  failed_against m q x w e = failed_inconsistent m (λ c. c.agreed q x e (w c))

  pub failed_before : (m n : List Mark) → Derived value p m n → Failed value p n → Failed value p m
  failed_before m n d f = record {
    unsettled = λ top st l b. f.unsettled top st (l ∙ sym d.long) (d.under top st l b);
    unanswered = λ s a ag. f.unanswered s a (d.agreed s a ag);
  }

  -- what a drawing ends with
  pub drawn_from : (start m : List Mark) → Derived value p start m → Settled value p.rules m → Drawn value p.rules start m
  drawn_from start m d st = record { reached = d.reached (settled_consistent m st); settled = st }

  pub clash_from : (start : List Mark) → Failed value p start → Clash value p.rules start
  clash_from start f n d = f.unsettled n d.settled (reached_length value p.rules start d.reached) (reached_adds value p.rules start d.reached)
