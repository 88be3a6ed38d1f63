-- Runs of steps: soundness, and that the order of steps does not matter.
use Rattle.std.proofs.Common.{◌≡◌, ℕ, ◌<◌, Bool, not, ◌⊎◌, List, length, set, sym, refl, ap, ◌∙◌, subst, inl, inr, arith}
use Rattle.std.proofs.lemmas.List.{length-set, get_or-set_same}
use Rattle.semantics.specs.declared.Mark.{Mark}
use Rattle.semantics.specs.declared.Mark.TheVariants.{Open}
use Rattle.semantics.specs.Families.{Values}
use Rattle.semantics.specs.Markings.{at, marked, Agrees, Below, Step, Reaches, here, then, Settled, Drawn}
use Rattle.semantics.specs.Programs.{Rule}
use Rattle.semantics.specs.Rows.{has}
use Rattle.semantics.specs.Theorems.{StepsSound, DrawnOnce, Leads}
use Rattle.semantics.proofs.Marks.{not_itself, both_marked, cases_mark, mark_adds, mark_keeps, same_marking}
use Rattle.semantics.proofs.Monotone.{forced_stays, forced_above, kept_below}
use Rattle.semantics.proofs.Sound.{forced_holds, not_broken}

module _ (value : Values) (rules : List Rule) where
  -- what holds of every mark, and of the new one, holds of every mark after the step
  step_keeps : (m n : List Mark) (s : Step value rules m n) (P : ℕ → Bool → Type 0) → ((q : ℕ) (x : Bool) → at m q ≡ marked x → P q x) → P s.statement s.becomes → (q : ℕ) (x : Bool) → at n q ≡ marked x → P q x
  step_keeps m n s P h new q x e = mark_keeps m s.statement s.becomes s.inside P h new q x (ap (λ z. at z q) (sym s.next) ∙ e)

  step_adds : (m n : List Mark) → Step value rules m n → Below m n
  step_adds m n s q x e = ap (λ z. at z q) s.next ∙ mark_adds m s.statement s.becomes s.was_open q x e

  module _ (start : List Mark) where
    pub reached_length : {m : List Mark} → Reaches value rules start m → length m ≡ length start
    reached_length here = refl
    reached_length (then m n r s) = ap length s.next ∙ length-set m s.statement (marked s.becomes) ∙ reached_length r

    pub reached_adds : {m : List Mark} → Reaches value rules start m → Below start m
    reached_adds here q x e = e
    reached_adds (then m n r s) q x e = step_adds m n s q x (reached_adds r q x e)

    -- all that is reached lies below each settled marking above the start
    reached_under : {m : List Mark} (top : List Mark) → Settled value rules top → length top ≡ length start → Below start top → Reaches value rules start m → Below m top
    reached_under top st l b here = b
    reached_under top st l b (then m n r s) =
        let under : Below m top = reached_under top st l b r in
        let lm : length m ≡ length start = reached_length r in
        step_keeps m n s (λ q x. at top q ≡ marked x) under (forced_above value rules m top s.statement s.becomes st under (omega (arith, s.inside)) s.forced)

    pub reached_below_drawn : (m n : List Mark) → Reaches value rules start m → Drawn value rules start n → Below m n
    reached_below_drawn m n r d = reached_under n d.settled (reached_length d.reached) (reached_adds d.reached) r

-- steps after steps
pub reached_on : (value : Values) (rules : List Rule) (start m : List Mark) → Reaches value rules start m → {n : List Mark} → Reaches value rules m n → Reaches value rules start n
reached_on value rules start m r here = r
reached_on value rules start m r (then k n t s) = then k n (reached_on value rules start m r t) s

-- a marking that steps lead to from m, with all of k's marks, below n
record Caught (value : Values) (rules : List Rule) (m k n : List Mark) : Type 0 where
  marking : List Mark
  reached : Reaches value rules m marking
  above : Below k marking
  under : Below marking n

-- Follow the way to the settled n: each mark that it sets and m lacks is forced at m too, so m can take the same step.
module _ (value : Values) (rules : List Rule) (start m n : List Mark) (rm : Reaches value rules start m) (d : Drawn value rules start n) where
  same_length : (k : List Mark) → Reaches value rules m k → length k ≡ length n
  same_length k r = reached_length value rules m r ∙ reached_length value rules start rm ∙ sym (reached_length value rules start d.reached)

  take_step : (k k' : List Mark) (s : Step value rules k k') → Below k n → (c : Caught value rules m k n) → (at c.marking s.statement ≡ Open) ⊎ ((at c.marking s.statement ≡ marked s.becomes) ⊎ (at c.marking s.statement ≡ marked (not s.becomes))) → length k ≡ length n → Caught value rules m k' n
  take_step k k' s b c (inl o) l =
      let q = s.statement in
      let x = s.becomes in
      let long : length c.marking ≡ length n = same_length c.marking c.reached in
      let inside : q < length c.marking = omega (arith, s.inside) in
      let next : Step value rules c.marking (set c.marking q (marked x)) = record { statement = q; becomes = x; inside = inside; was_open = o; forced = forced_stays value rules k c.marking c.above (kept_below value rules c.marking n d.settled c.under) s.forced; next = refl } in
      record {
        marking = set c.marking q (marked x);
        reached = then c.marking _ c.reached next;
        above = step_keeps value rules k k' s _ (λ p y e. step_adds value rules c.marking _ next p y (c.above p y e)) (get_or-set_same c.marking q (marked x) Open inside);
        under = step_keeps value rules c.marking _ next _ c.under (forced_above value rules k n q x d.settled b (omega (arith, s.inside)) s.forced);
      }
  take_step k k' s b c (inr (inl e)) l = record { marking = c.marking; reached = c.reached; above = step_keeps value rules k k' s _ c.above e; under = c.under }
  take_step k k' s b c (inr (inr e)) l =
      both_marked s.becomes (forced_above value rules k n s.statement s.becomes d.settled b (omega (arith, s.inside)) s.forced) (c.under s.statement (not s.becomes) e)

  caught : {k : List Mark} → Reaches value rules start k → Caught value rules m k n
  caught here = record { marking = m; reached = here; above = reached_adds value rules start rm; under = reached_below_drawn value rules start m n rm d }
  caught (then k k' r s) =
      let c = caught r in
      take_step k k' s (reached_below_drawn value rules start k n r d) c (cases_mark (at c.marking s.statement) s.becomes) (reached_length value rules start r ∙ sym (reached_length value rules start d.reached))

  lead_on : Reaches value rules m n
  lead_on =
      let c = caught d.reached in
      subst (Reaches value rules m) (same_marking c.marking n (same_length c.marking c.reached) c.under c.above) c.reached

pub leads : (m n : List Mark) → Leads m n
leads m n value rules start r d = (reached_below_drawn value rules start m n r d, lead_on value rules start m n r d)

pub drawn_once : (m n : List Mark) → DrawnOnce m n
drawn_once m n value rules start x y =
    same_marking m n (reached_length value rules start x.reached ∙ sym (reached_length value rules start y.reached))
    (reached_below_drawn value rules start m n x.reached y)
    (reached_below_drawn value rules start n m y.reached x)

pub steps_sound : (m : List Mark) (s : List Bool) → Agrees m s → StepsSound m s
steps_sound m s ag = record {
  next = λ value p a n t. step_keeps value p.rules m n t (λ q x. has s q ≡ x) ag (forced_holds value m s ag p a t.forced);
  unbroken = λ value p a b. not_broken value m s ag p a b;
  unopposed = λ value p a q x h e. not_itself x (sym (forced_holds value m s ag p a h) ∙ ag q (not x) e);
}
