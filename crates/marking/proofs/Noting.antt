-- The marking of findings, from the last finding to the first.
use Rattle.std.proofs.Common.{◌≡◌, ℕ, ◌<◌, cond, List, [], ◌∷◌, ◌++◌, Bor, map, reverse, get_or, set, replicate, sym, refl, ap, ◌∙◌, ⊎_elim, arith}
use Rattle.semantics.specs.Markings.{found, marked}
use Rattle.semantics.specs.declared.Finding.{Finding}
use Rattle.semantics.specs.declared.Mark.{Mark}
use Rattle.semantics.specs.declared.Mark.TheVariants.{Open}
use Rattle.std.proofs.lemmas.List.FromFn.{fill_by_all, get_or-map-range_with_len, length-map-range_with_len}
use Rattle.std.proofs.lemmas.List.{get_or-replicate, get_or-set_other, get_or-set_same, length-replicate, length-set, map-append, reverse-append}
use Rattle.std.proofs.lemmas.Bool.{cases_eq, eq-eqb, ne_eqb}
use Rattle.std.specs.List.{range_with_len}

-- with no finding every statement is open
pub none_noted : (n : ℕ) → replicate n Open ≡ map (found []) (range_with_len 0 n)
none_noted n = fill_by_all (found []) (replicate n Open) n Open (length-replicate n Open) (λ k l. get_or-replicate n k Open Open l)

-- a finding before the others decides its statement, and leaves the rest
pub one_more_noted : (n : ℕ) (f : Finding) (fs : List Finding) → set (map (found fs) (range_with_len 0 n)) f.statement (marked f.present) ≡ map (found (f ∷ fs)) (range_with_len 0 n)
one_more_noted n f fs = fill_by_all (found (f ∷ fs)) _ n Open (length-set _ f.statement _ ∙ length-map-range_with_len (found fs) 0 n) each
  where
    each : (k : ℕ) → k < n → get_or (set (map (found fs) (range_with_len 0 n)) f.statement (marked f.present)) k Open ≡ found (f ∷ fs) k
    each k l =
        ⊎_elim
        (λ (e : k ≡ f.statement). rw e (get_or-set_same _ f.statement _ Open (omega (arith, length-map-range_with_len (found fs) 0 n)) ∙ sym (ap (λ b. cond b (marked f.present) (found fs f.statement)) (eq-eqb f.statement f.statement refl))))
        (λ d. get_or-set_other _ f.statement k _ Open d ∙ get_or-map-range_with_len (found fs) 0 n k k Open l (omega arith) ∙ sym (ap (λ b. cond b (marked f.present) (found fs k)) (ne_eqb f.statement k (λ e. d (sym e)))))
        (cases_eq k f.statement)

-- the finding before those that are noted, which are read from the last on
pub noted_next : (n : ℕ) (done : List (Bor Finding)) (f : Bor Finding) (m after : List Mark) (v : Mark) → m ≡ map (found (reverse (map (λ d. d.now) done))) (range_with_len 0 n) → v ≡ marked f.now.present → after ≡ set m f.now.statement v → after ≡ map (found (reverse (map (λ d. d.now) (done ++ f ∷ [])))) (range_with_len 0 n)
noted_next n done f m after v e g h =
    let next : reverse (map (λ (d : Bor Finding). d.now) (done ++ f ∷ [])) ≡ f.now ∷ reverse (map (λ d. d.now) done) = rw (map-append, reverse-append) refl in
    h ∙ rw (e, g, next) (one_more_noted n f.now _)
