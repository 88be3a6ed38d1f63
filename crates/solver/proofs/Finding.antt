-- Drawing narrows a search for answer sets, and what the search finds is an account.
use Rattle.std.proofs.Common.{◌≡◌, ◌↔◌, IsTrue, ℕ, Bool, true, false, not, ◌<◌, List, length, set, Some, None, Option, is_some, refl, sym, ap, ◌∙◌, subst, inl, inr, ⊎_elim, arith}
use Rattle.std.proofs.lemmas.Bool.{both_ways, cases_Bool, cases_eq, cases_lt, false≢true}
use Rattle.std.proofs.lemmas.List.{get_or-set_other, get_or-set_same, get_or_past, length-set, set_past}
use Rattle.drawing.specs.Drawings.{DrawsFrom, KeepsAnswers}
use Rattle.marking.specs.declared.marking.Marking.{Marking}
use Rattle.search.specs.Search.{EarliestSolution, Solves}
use Rattle.semantics.proofs.AnswerSets.{supported}
use Rattle.semantics.proofs.FullMarkings.{below_extends, extends_marked, marked_extends}
use Rattle.semantics.proofs.Marks.{not_itself, other_value, same_value}
use Rattle.semantics.proofs.Findings.{noted_agrees}
use Rattle.std.proofs.lemmas.List.FromFn.{length-map-range_with_len}
use Rattle.semantics.proofs.Drawing.{reached_adds, reached_length}
use Rattle.semantics.specs.AnswerSets.{Account, AnswerSet}
use Rattle.semantics.specs.Families.{Values}
use Rattle.semantics.specs.FullMarkings.{Extends, row_of}
use Rattle.semantics.specs.Markings.{Below, at, found, marked, noted}
use Rattle.semantics.specs.Programs.{Program}
use Rattle.semantics.specs.Rows.{has, how_many}
use Rattle.semantics.specs.Theorems.{Noted}
use Rattle.semantics.specs.declared.Finding.{Finding}
use Rattle.semantics.specs.declared.Mark.{Mark}
use Rattle.semantics.specs.declared.Mark.TheVariants.{Open}
use Rattle.solver.specs.Accounts.{AccountFrom, EarliestFrom, EveryAccount, EveryAccountOf, Excluded, Seeks, SeeksFor, SomeAccount, SomeAccountOf, Weighs, WeighsFor, some_has, some_lacks}
use Rattle.solver.specs.declared.weighing.Weighing.{Weighing}
use Rattle.solver.specs.declared.weighing.Weighing.TheVariants.{InEvery, InNone, InSome, NoAccount}
use Rattle.solver.specs.declared.account.Account.{Account as FoundAccount}

-- a marking has the marks of the start, and perhaps more, and no answer set is lost
pub record Narrows (value : Values) (p : Program) (start m : List Mark) : Type 0 where
  pub long : length m ≡ length start
  pub adds : Below start m
  pub keeps : (s : List Bool) → AnswerSet value p s → Extends start s → Extends m s

module _ (value : Values) (p : Program) (start : List Mark) where
  -- drawing narrows a search for answer sets
  pub drawn_narrows : (m : Marking) → DrawsFrom value p start (Some m) → KeepsAnswers value p start (Some m) → Narrows value p start m
  drawn_narrows m d k = record {
    long = reached_length value p.rules start d.drawn.reached;
    adds = reached_adds value p.rules start d.drawn.reached;
    keeps = λ s a x. record { long = x.long ∙ sym (reached_length value p.rules start d.drawn.reached); agrees = k s a x.agrees };
  }

  -- a search for answer sets is one for accounts
  account_solves : (s : List Bool) → AccountFrom value p start s → Solves (AnswerSet value p) p.statements start s
  account_solves s a = record { long = a.answer.long; fitting = a.answer; extends = a.extends }

  solves_account : (s : List Bool) → Solves (AnswerSet value p) p.statements start s → AccountFrom value p start s
  solves_account s h = record { answer = h.fitting; extends = h.extends }

  -- what it finds is the earliest account, in full
  pub found_account : (m : List Mark) (a : FoundAccount) → (a.marks ≡ m) × (a.statements_in ≡ how_many (row_of m)) → EarliestSolution (AnswerSet value p) p.statements start m → EarliestFrom value p start a
  found_account m a (e, n) = by_marks a.marks a.statements_in e (n ∙ ap (λ k. how_many (row_of k)) (sym e))
    where
      by_marks : (k : List Mark) (c : ℕ) → k ≡ m → c ≡ how_many (row_of k) → EarliestSolution (AnswerSet value p) p.statements start m → EarliestFrom value p start (record { marks = k; statements_in = c })
      by_marks k c e n h0 =
          let h = subst (EarliestSolution (AnswerSet value p) p.statements start) (sym e) h0 in
          record {
            in_full = record { full = h.full; counted = n; supported = λ q i. supported (row_of k) q i value p h.solution.fitting };
            account = solves_account (row_of k) h.solution;
            others = λ t b d. h.others t (account_solves t b) d;
          }

  -- the accounts of a marking with one mark more are those that have the statement so
  module _ (q : ℕ) (x : Bool) where
    -- where its mark or its place excludes that, there are none
    pub excluded_none : Excluded start q x → SomeAccount value p start q x → ⊥
    excluded_none (inl e) (s, a, h) = not_itself x (sym h ∙ a.extends.agrees q (not x) e)
    excluded_none (inr (l, e)) (s, a, h) = both_ways (has s q) (get_or_past s q false (omega (arith, l, a.extends.long))) (h ∙ e)

    module _ (free : Excluded start q x → ⊥) where
      -- and where nothing does, the mark takes no other away
      keeps_marks : q < length start → Below start (set start q (marked x))
      keeps_marks l r y e =
          ⊎_elim
          (λ (i : r ≡ q). rw i (get_or-set_same start q (marked x) Open l ∙ ap marked (same (rw i at e))))
          (λ d. get_or-set_other start q r (marked x) Open d ∙ e)
          (cases_eq r q)
        where
          turned : x ≡ not y → y ≡ not x
          turned n = other_value y x (λ e. not_itself y (e ∙ n))

          same : at start q ≡ marked y → x ≡ y
          same f = same_value x y (λ n. free (inl (f ∙ ap marked (turned n))))

      -- the accounts of the one are those of the other that have the statement so
      marked_account : (s : List Bool) → AccountFrom value p start s → has s q ≡ x → AccountFrom value p (set start q (marked x)) s
      marked_account s a h = record {
        answer = a.answer;
        extends = ⊎_elim
            (λ l. marked_extends start q x s l h a.extends)
            (λ l. subst (λ m. Extends m s) (sym (set_past start q (marked x) l)) a.extends)
            (cases_lt q (length start));
      }

      account_marked : (s : List Bool) → AccountFrom value p (set start q (marked x)) s → AccountFrom value p start s × (has s q ≡ x)
      account_marked s a =
          ⊎_elim
          (λ l. (record { answer = a.answer; extends = below_extends start _ s (length-set start q (marked x)) (keeps_marks l) a.extends }, extends_marked start q x s l a.extends))
          (λ l. let e = subst (λ m. Extends m s) (set_past start q (marked x) l) a.extends in
          (record { answer = a.answer; extends = e }, get_or_past s q false (omega (arith, l, e.long)) ∙ sym (other_value x true (λ t. free (inr (l, t))))))
          (cases_lt q (length start))

      -- so seeking from the marking with the mark tells whether there is one
      pub some_sought : (r : Option FoundAccount) → Seeks value p (set start q (marked x)) r → (is_some r ≡ true → SomeAccount value p start q x) × (SomeAccount value p start q x → is_some r ≡ true)
      some_sought (Some a) h = ((λ e. let f = account_marked (row_of a.marks) h.account in (row_of a.marks, f.0, f.1)), λ s. refl)
      some_sought None h = ((λ e. absurd (false≢true e)), λ s. absurd (h s.0 (marked_account s.0 s.1 s.2)))

-- the accounts that extend the marking of findings are the accounts of the findings
module _ (value : Values) (p : Program) (findings : List Finding) (n : Noted p findings) where
  -- an account from the marking of findings agrees with them, and the other way round
  account_of : (s : List Bool) → AccountFrom value p (noted p findings) s → Account value p findings s
  account_of s a = record { answer = a.answer; fits = (noted_agrees p findings s n).1 a.extends.agrees }

  account_from : (s : List Bool) → Account value p findings s → AccountFrom value p (noted p findings) s
  account_from s a = record {
    answer = a.answer;
    extends = record { long = a.answer.long ∙ sym (length-map-range_with_len (found findings) 0 p.statements); agrees = (noted_agrees p findings s n).0 a.fits };
  }

  pub sought_for : (r : Option FoundAccount) → Seeks value p (noted p findings) r → SeeksFor value p findings r
  sought_for (Some a) h = record {
    in_full = h.in_full;
    earliest = record { account = account_of (row_of a.marks) h.account; others = λ t b d. h.others t (account_from t b) d };
  }
  sought_for None h = λ s a. h s (account_from s a)

  some_of : (q : ℕ) (x : Bool) → SomeAccount value p (noted p findings) q x → SomeAccountOf value p findings q x
  some_of q x (s, a, e) = (s, account_of s a, e)

  every_of : (q : ℕ) (x : Bool) → EveryAccount value p (noted p findings) q x → EveryAccountOf value p findings q x
  every_of q x h s a = h s (account_from s a)

  pub weighed_for : (q : ℕ) (w : Weighing) → Weighs value p (noted p findings) q w → WeighsFor value p findings q w
  weighed_for q InEvery (h, all) = (some_of q true h, every_of q true all)
  weighed_for q InNone (h, all) = (some_of q false h, every_of q false all)
  weighed_for q InSome (h, k) = (some_of q true h, some_of q false k)
  weighed_for q NoAccount h = λ s a. h s (account_from s a)

-- weighing the accounts of a drawing weighs those of its start
module _ (value : Values) (p : Program) (start drawn : List Mark) (n : Narrows value p start drawn) (q : ℕ) where
  -- the accounts are the same
  to_drawn : (s : List Bool) → AccountFrom value p start s → AccountFrom value p drawn s
  to_drawn s a = record { answer = a.answer; extends = n.keeps s a.answer a.extends }

  to_start : (s : List Bool) → AccountFrom value p drawn s → AccountFrom value p start s
  to_start s a = record { answer = a.answer; extends = below_extends start drawn s n.long n.adds a.extends }

  some_from : (x : Bool) → SomeAccount value p drawn q x → SomeAccount value p start q x
  some_from x (s, a, h) = (s, to_start s a, h)

  every_from : (x : Bool) → (SomeAccount value p drawn q (not x) → ⊥) → EveryAccount value p start q x
  every_from x h s a = same_value (has s q) x (λ e. h (s, to_drawn s a, e))

  -- some account has the statement so exactly where it was found to
  abbrev Tells : Bool → Bool → Type 0
  Tells b x = (IsTrue b ↔ SomeAccount value p drawn q x)

  untold : (b x : Bool) → b ≡ false → Tells b x → SomeAccount value p drawn q x → ⊥
  untold b x e t s = both_ways b e (t.1 s)

  -- what is told is so of the start
  pub weighed : (w : Weighing) (yea nay : Bool) → yea ≡ some_has w → nay ≡ some_lacks w → Tells yea true → Tells nay false → Weighs value p start q w
  weighed InSome yea nay e f y n = (some_from true (y.0 e), some_from false (n.0 f))
  weighed InEvery yea nay e f y n = (some_from true (y.0 e), every_from true (untold nay false f n))
  weighed InNone yea nay e f y n = (some_from false (n.0 f), every_from false (untold yea true e y))
  weighed NoAccount yea nay e f y n = λ s a.
      ⊎_elim (λ i. untold yea true e y (s, to_drawn s a, i)) (λ i. untold nay false f n (s, to_drawn s a, i)) (cases_Bool (has s q))
