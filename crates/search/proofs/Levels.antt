-- What a level of a search comes to.
use Rattle.std.proofs.Common.{◌≡◌, ℕ, ◌<◌, ◌≤◌, Bool, true, List, length, Option, Some, set, sym, ◌∙◌, subst, arith}
use Rattle.marking.specs.Marks.{how_open, FirstOpen}
use Rattle.marking.specs.declared.marking.Marking.{Marking}
use Rattle.search.proofs.Following.{either_nogood, grown_sound}
use Rattle.search.proofs.Guessing.{guessed_earliest, narrowed_sought}
use Rattle.search.proofs.Narrowing.{mark_fewer, narrows_back, narrows_same}
use Rattle.search.specs.Nogoods.{FollowsFromEither, Excluded, Fitting, Grown, LacksOne, Narrows, Nogood, Sound}
use Rattle.search.specs.Outcomes.{Begun, Ended}
use Rattle.search.specs.Search.{EarliestSolution}
use Rattle.search.specs.declared.outcome.Failure.{Failure}
use Rattle.search.specs.declared.outcome.Outcome.{Outcome}
use Rattle.search.specs.declared.outcome.Outcome.TheVariants.{Failed, Found}
use Rattle.semantics.proofs.Marks.{open_unmarked}
use Rattle.semantics.specs.Markings.{marked}
use Rattle.semantics.specs.declared.Mark.{Mark}
use Rattle.std.proofs.lemmas.List.{get_or-set_other, get_or-set_same, length-set}

-- a guess of the first open statement of m
module _ (m guess : List Mark) (q : ℕ) (first : FirstOpen m (Some q)) (is : guess ≡ set m q (marked true)) where
  -- it lacks that statement alone under m
  pub guess_stands : LacksOne m guess q
  guess_stands = rw is lacks
    where
      lacks : LacksOne m (set m q (marked true)) q
      lacks = record {
        inside = first.0;
        open_there = first.1;
        here = λ e. open_unmarked true (sym e ∙ get_or-set_same m q (marked true) _ first.0);
        others = λ k x d e. sym (get_or-set_other m q k (marked true) _ d) ∙ e;
      }

  pub guess_fewer : (n : ℕ) → how_open m ≤ n → how_open guess < n
  guess_fewer n l = rw is (omega (arith, mark_fewer m q true first.0 first.1))

module _ (fits : List Bool → Type 0) (size : ℕ) where
  -- the first marking of a level
  pub level_begun : (whole : List Mark) (kept : List (Option Marking)) → length whole ≡ size → Sound (Fitting fits size) kept → Begun fits size whole kept whole
  level_begun whole kept long s = record { long = long; sound = s; narrows = narrows_same _ whole }

  pub guess_begun : (m guess : List Mark) (q : ℕ) (kept after : List (Option Marking))
      → guess ≡ set m q (marked true) → length m ≡ size → Sound (Fitting fits size) kept
      → ((s : List Bool) → Excluded after s → Excluded kept s)
      → Begun fits size guess after guess
  guess_begun m guess q kept after is long s less = level_begun guess after (rw is (length-set m q (marked true) ∙ long)) (record { none = λ t f x. s.none t f (less t x) })

  -- what a guess finds is what the marking has
  pub guess_found : (start m guess found : List Mark) (q : ℕ)
      → Narrows (Fitting fits size) start m → FirstOpen m (Some q) → guess ≡ set m q (marked true)
      → EarliestSolution fits size guess found
      → EarliestSolution fits size start found
  guess_found start m guess found q n first is e = narrowed_sought fits size start m n (Some found) (guessed_earliest fits size m q first found (subst (λ k. EarliestSolution fits size k found) is e))

  pub fitting_nogood : (n : List Mark) → Nogood fits n → Nogood (Fitting fits size) n
  fitting_nogood n g s f a = g s f.fitting a

  -- where nothing is found from the start of a level, a failure says why
  pub failed_ended : (whole start given : List Mark) (before after : List (Option Marking)) (r : Failure)
      → Narrows (Fitting fits size) whole start
      → Sound (Fitting fits size) before
      → Nogood (Fitting fits size) given
      → Nogood (Fitting fits size) start
      → Grown before r.nogood after
      → FollowsFromEither before given whole r.nogood
      → Ended fits size after start (Failed r)
  failed_ended whole start given before after r n s g none grown follows = record { sound = grown_sound before _ s r.nogood after reason grown; outcome = reason }
    where
      reason : Nogood (Fitting fits size) r.nogood
      reason = either_nogood before _ s given whole r.nogood g (narrows_back _ whole start n none) follows

  -- what a narrowed marking comes to is what the marking comes to
  pub narrowed_ended : (start mid : List Mark) (after : List (Option Marking)) (r : Outcome)
      → Narrows (Fitting fits size) start mid
      → Ended fits size after mid r
      → Ended fits size after start r
  narrowed_ended start mid after (Found m) n e = record { sound = e.sound; outcome = narrowed_sought fits size start mid n (Some m) e.outcome }
  narrowed_ended start mid after (Failed f) n e = record { sound = e.sound; outcome = e.outcome }
