-- The earliest solution from a marking: where its row fits, where it was narrowed, and where its first open statement is
-- guessed in.
use Rattle.std.proofs.Common.{◌≡◌, ℕ, Bool, true, false, List, length, Some, None, Option, set, sym, ◌∙◌, subst, ⊎_elim}
use Rattle.marking.specs.Marks.{FirstOpen}
use Rattle.marking.specs.declared.marking.Marking.{Marking}
use Rattle.search.specs.Nogoods.{Fitting, Narrows, Nogood}
use Rattle.search.specs.Search.{EarliestSolution, Solves, Sought}
use Rattle.semantics.proofs.FullMarkings.{below_extends, extends_marked, extends_unmarked, marked_extends, only_row, row_extends, row_fixed}
use Rattle.semantics.specs.FullMarkings.{row_of, Extends, Full}
use Rattle.semantics.specs.Markings.{marked}
use Rattle.semantics.specs.Rows.{has, Precedes}
use Rattle.semantics.specs.declared.Mark.{Mark}
use Rattle.std.proofs.lemmas.Bool.{cases_Bool}

module _ (fits : List Bool → Type 0) (size : ℕ) where
  -- a full marking is the only one to ask for
  module _ (m : List Mark) (long : length m ≡ size) (full : Full m) where
    pub full_earliest : fits (row_of m) → EarliestSolution fits size m m
    full_earliest f = record {
      full = full;
      solution = record { long = (row_extends m).long ∙ long; fitting = f; extends = row_extends m };
      others = λ t h d. absurd (d (only_row m t full h.extends));
    }

    pub full_nogood : (fits (row_of m) → ⊥) → Nogood (Fitting fits size) m
    full_nogood n s f a = n (subst fits (only_row m s full (record { long = f.long ∙ sym long; agrees = a })) f.fitting)

  pub nogood_none : (start : List Mark) → Nogood (Fitting fits size) start → Sought fits size start None
  nogood_none start n s h = n s (record { long = h.long; fitting = h.fitting }) h.extends.agrees

  -- narrowing loses no solution
  module _ (start mid : List Mark) (n : Narrows (Fitting fits size) start mid) where
    onward : (t : List Bool) → Solves fits size start t → Solves fits size mid t
    onward t h = record {
      long = h.long;
      fitting = h.fitting;
      extends = record { long = h.extends.long ∙ sym n.long; agrees = n.keeps t (record { long = h.long; fitting = h.fitting }) h.extends.agrees };
    }

    pub narrowed_sought : (r : Option Marking) → Sought fits size mid r → Sought fits size start r
    narrowed_sought (Some m) e = record {
      full = e.full;
      solution = record { long = e.solution.long; fitting = e.solution.fitting; extends = below_extends start mid (row_of m) n.long n.adds e.solution.extends };
      others = λ t h d. e.others t (onward t h) d;
    }
    narrowed_sought None e = λ t h. e t (onward t h)

  -- the earliest with the first open statement in is the earliest of all: what stands before that one is fixed
  module _ (mid : List Mark) (q : ℕ) (first : FirstOpen mid (Some q)) where
    before_without : (s t : List Bool) → Extends mid s → Extends mid t → has s q ≡ true → has t q ≡ false → Precedes s t
    before_without s t x y e f = record {
      at = q;
      same = λ k l. row_fixed mid s k (first.2 k l) x ∙ sym (row_fixed mid t k (first.2 k l) y);
      first = e;
      second = f;
    }

    pub guessed_earliest : (m : List Mark) → EarliestSolution fits size (set mid q (marked true)) m → EarliestSolution fits size mid m
    guessed_earliest m e = record {
      full = e.full;
      solution = record { long = e.solution.long; fitting = e.solution.fitting; extends = back };
      others = later;
    }
      where
        back : Extends mid (row_of m)
        back = extends_unmarked mid q true (row_of m) first.1 e.solution.extends

        later : (t : List Bool) → Solves fits size mid t → (t ≡ row_of m → ⊥) → Precedes (row_of m) t
        later t h d =
            ⊎_elim
            (λ i. e.others t (record { long = h.long; fitting = h.fitting; extends = marked_extends mid q true t first.0 i h.extends }) d)
            (λ o. before_without (row_of m) t back h.extends (extends_marked mid q true (row_of m) first.0 e.solution.extends) o)
            (cases_Bool (has t q))
