-- Marks as bytes at the front of a part.
use Rattle.std.proofs.Common.{◌≡◌, ℕ, zero, suc, ◌+◌, ◌<◌, ◌≤◌, true, false, List, [], ◌∷◌, ◌++◌, map, length, take, drop, set, Some, refl, sym, ap, ◌∙◌, arith}
use Rattle.drawing.specs.Drawings.{KeepsAccounts, TheDrawing}
use Rattle.drawing.specs.Drawings.{Draws as DrawsMarks}
use Rattle.marking.specs.declared.marking.Marking.{Marking}
use Rattle.semantics.proofs.Drawing.{reached_length}
use Rattle.semantics.specs.Families.{Values}
use Rattle.semantics.specs.FullMarkings.{Full, is_in, row_of}
use Rattle.semantics.specs.Markings.{at, found, marked, noted}
use Rattle.semantics.specs.Programs.{Program}
use Rattle.semantics.specs.declared.Finding.{Finding}
use Rattle.semantics.specs.declared.Mark.{Mark}
use Rattle.semantics.specs.declared.Mark.TheVariants.{Open, In, Out}
use Rattle.sheet.specs.Outcomes.{Draws, Seeks, byte_of, written}
use Rattle.sheet.specs.declared.visits.Drawing.TheVariants.{Settled}
use Rattle.solver.specs.Accounts.{EarliestFor}
use Rattle.solver.specs.declared.account.Account.{Account as FoundAccount}
use Rattle.std.proofs.lemmas.List.{length-map, take_all}
use Rattle.std.proofs.lemmas.List.FromFn.{length-map-range_with_len}

-- the first i marks, and what is behind them
abbrev pub begun : List Mark → ℕ → List ℕ → List ℕ
begun m i part = map byte_of (take i m) ++ drop i part

next_begun : (m : List Mark) (i : ℕ) (part : List ℕ) → i < length m → length m ≤ length part → set (begun m i part) i (byte_of (at m i)) ≡ begun m (suc i) part
next_begun [] i part l h = absurd (omega (arith, l))
next_begun (v ∷ m) i [] l h = absurd (omega (arith, h))
next_begun (v ∷ m) zero (b ∷ part) l h = refl
next_begun (v ∷ m) (suc i) (b ∷ part) l h = ap (λ p. byte_of v ∷ p) (next_begun m i part (omega (arith, l)) (omega (arith, h)))

-- one mark more
pub begun_more : (m : List Mark) (i : ℕ) (part : List ℕ) → i < length m → length m ≤ length part → set (begun m i part) i (byte_of (at m i)) ≡ begun m (i + 1) part
begun_more m i part l h = let e : suc i ≡ i + 1 = omega arith in next_begun m i part l h ∙ ap (λ k. begun m k part) e

-- all marks
pub begun_all : (m : List Mark) (i : ℕ) (part : List ℕ) → i ≡ length m → begun m i part ≡ written m part
begun_all m i part e = ap (λ k. begun m k part) e ∙ ap (λ l. map byte_of l ++ drop (length m) part) (take_all (length m) m (omega arith))

-- a full marking is that of its row
pub full_marked : (m : List Mark) → Full m → map marked (row_of m) ≡ m
full_marked [] f = refl
full_marked (Open ∷ m) f = absurd (f 0 (omega arith) refl)
full_marked (In ∷ m) f = ap (λ k. In ∷ k) (full_marked m (λ q l. f (suc q) (omega (arith, l))))
full_marked (Out ∷ m) f = ap (λ k. Out ∷ k) (full_marked m (λ q l. f (suc q) (omega (arith, l))))

module _ (value : Values) (p : Program) (fs : List Finding) (part after : List ℕ) where
  -- a drawing has a mark for each statement
  pub drawn_long : (m : List Mark) → TheDrawing value p.rules (noted p fs) m → length m ≡ p.statements
  drawn_long m d = reached_length value p.rules (noted p fs) d.drawn.reached ∙ length-map-range_with_len (found fs) 0 p.statements

  -- a drawing whose bytes are written
  pub drawn_to : (m : Marking) → DrawsMarks value p fs (Some m) → KeepsAccounts value p fs (Some m) → after ≡ written m part → Draws value p fs part after Settled
  drawn_to m d k e = record {
    marks = m;
    long = drawn_long m d;
    drawing = d;
    every_has = λ q i s a. k s a q true i;
    none_has = λ q i s a. k s a q false i;
    bytes = e;
  }

  -- an account has a mark for each statement
  pub account_long : (a : FoundAccount) → EarliestFor value p fs a → length a.marks ≡ p.statements
  account_long a e = sym (length-map a.marks is_in) ∙ e.earliest.account.answer.long

  -- an account whose bytes are written
  pub found_to : (a : FoundAccount) → EarliestFor value p fs a → after ≡ written a.marks part → Seeks value p fs part after (Some a.statements_in)
  found_to a e w = record {
    row = row_of a.marks;
    earliest = e.earliest;
    counted = e.in_full.counted;
    supported = e.in_full.supported;
    bytes = w ∙ ap (λ m. written m part) (sym (full_marked a.marks e.in_full.full));
  }
