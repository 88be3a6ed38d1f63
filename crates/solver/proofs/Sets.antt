-- The statements of a rule and of a row as sets, and the marks that are made of these.
use Rattle.std.proofs.Common.{◌≡◌, ◌&&◌, ℕ, ◌<◌, ◌≤◌, true, false, not, List, length, map, nat_lt, Some, None, Option, unwrap_or, sym, refl, ◌∙◌, arith}
use Rattle.std.proofs.lemmas.Bool.{and_from, both_ways, false≢true}
use Rattle.std.proofs.lemmas.Bool.Decides.{nat_tests}
use Rattle.std.proofs.lemmas.List.{ext_get_or, get_or-map, length-map}
use Rattle.std.specs.Prelude.{IfNone, IfSome}
use Rattle.marking.specs.Marks.{Divides, is_out}
use Rattle.marking.specs.Sets.{Meets, contains}
use Rattle.marking.specs.declared.marking.Marking.{Marking}
use Rattle.marking.specs.declared.set.Set.{Set}
use Rattle.rulesets.specs.Rulesets.{IsSet}
use Rattle.semantics.specs.FullMarkings.{is_in, row_of}
use Rattle.semantics.specs.Markings.{at}
use Rattle.semantics.specs.Programs.{Rule}
use Rattle.semantics.specs.declared.Mark.{Mark}
use Rattle.semantics.specs.declared.Mark.TheVariants.{Open, In, Out}
use Rattle.solver.specs.Smaller.{FailsUnder, needs, removable}

-- the marks that remove the head of a rule and leave what it needs
pub fails_under : (row : List Mark) (r : Rule) (head needed : Set) → IsSet head r.head → ((q : ℕ) → contains needed q ≡ needs (row_of row) r q) → (n : Option Marking) → IfSome n (λ m. length m ≡ length row) → IfSome n (λ m. Divides (length row) head needed m) → IfNone n (Meets head needed) → FailsUnder (row_of row) r n
fails_under row r head needed is all (Some n) l d _ =
    let inside : (q : ℕ) → q < length (row_of row) → q < length n = λ q i. omega (arith, i, l, length-map row is_in) in
    record {
      long = l ∙ sym (length-map row is_in);
      removed = λ q i. d.present q (inside q i) ∙ is q;
      left = λ q i. d.absent q (inside q i) ∙ all q;
    }
fails_under row r head needed is all None _ _ (q, h, k) = (q, sym (is q) ∙ h, sym (all q) ∙ k)

-- a mark by whether it is in and whether it is out
removable_by : (v w : Mark) → is_in w ≡ not (is_in v) → is_out w ≡ false → w ≡ removable v
removable_by Open Open i o = absurd (false≢true i)
removable_by Open In i o = refl
removable_by Open Out i o = absurd (false≢true i)
removable_by In Open i o = refl
removable_by In In i o = absurd (false≢true (sym i))
removable_by In Out i o = absurd (false≢true (sym o))
removable_by Out Open i o = absurd (false≢true i)
removable_by Out In i o = refl
removable_by Out Out i o = absurd (false≢true i)

-- all that is not in the row removed, and nothing left
pub removable_made : (row : List Mark) (size : ℕ) (all present outside none : Set) → size ≡ length row → size ≤ 128 → ((q : ℕ) → contains all q ≡ (nat_lt q size && nat_lt q 128)) → ((q : ℕ) → contains present q ≡ is_in (at row q)) → ((q : ℕ) → contains outside q ≡ (contains all q && not (contains present q))) → ((q : ℕ) → contains none q ≡ false) → (n : Option Marking) (d : Marking) → IfSome n (λ m. Divides size outside none m) → IfNone n (Meets outside none) → unwrap_or n d ≡ map removable row
removable_made row size all present outside none e few alls ins outs nones None d _ (q, h, k) = absurd (both_ways (contains none q) (nones q) k)
removable_made row size all present outside none e few alls ins outs nones (Some m) d is _ = ext_get_or Open m (map removable row) long each
  where
    long : length m ≡ length (map removable row)
    long = omega (arith, is.long, e, few, length-map row removable)

    each : (q : ℕ) → q < length m → at m q ≡ at (map removable row) q
    each q l =
        let inside : q < size = omega (arith, l, is.long, few) in
        let here : contains all q ≡ true = alls q ∙ and_from (nat_lt q size) (nat_lt q 128) (grind (arith, nat_tests)) (grind (arith, nat_tests)) in
        removable_by (at row q) (at m q) (is.present q l ∙ outs q ∙ rw (here, ins q) refl) (is.absent q l ∙ nones q)
        ∙ sym (get_or-map removable row q Open Open (omega (arith, inside, e)))
