-- What a test of each place of a row, a marking or findings decides.
use Rattle.std.proofs.Common.{cond, ◌≡◌, ℕ, zero, suc, ◌+◌, ◌||◌, ◌<◌, ◌≤◌, Bool, true, false, not, ◌⊎◌, List, [], ◌∷◌, length, get_or, Decides, sym, refl, ap, ◌∙◌, subst, inl, inr, ⊎_elim, arith}
use Rattle.semantics.proofs.Lists.{all_at, all_from}
use Rattle.semantics.proofs.Marks.{marked_inside, marked_once, open_unmarked}
use Rattle.semantics.specs.Lists.{Among}
use Rattle.semantics.specs.Markings.{Agrees, Allows, Below, at, marked}
use Rattle.semantics.specs.Rows.{Part, Precedes, has}
use Rattle.semantics.specs.Tests.{allows, confirms, is_kept}
use Rattle.semantics.specs.declared.Finding.{Finding}
use Rattle.semantics.specs.declared.Mark.{Mark}
use Rattle.semantics.specs.declared.Mark.TheVariants.{Open, In, Out}
use Rattle.std.specs.List.{enumerate_from, list_all, zip}
use Rattle.std.proofs.lemmas.List.{get_or_past}
use Rattle.std.proofs.lemmas.Bool.{and_from, and_parts, both_ways, cases_eq, cases_lt, false≢true, not_from_false, not-true, true≢false}

pub refuted_by : (P : Type 0) → (P → ⊥) → Decides false P
refuted_by P n = ((λ e. absurd (false≢true e)), (λ p. absurd (n p)))

-- Where a test decides a fact of each element, passing everywhere decides the fact of all that are in the list.
pub all_decides : {X : Type 0} (p : X → Bool) (P : X → Type 0) → ((x : X) → Decides (p x) (P x)) → (xs : List X) → Decides (list_all p xs) ((x : X) → Among x xs → P x)
all_decides p P d xs = ((λ h x i. (d x).0 (all_at p xs x h i)), (λ h. all_from p xs (λ x i. (d x).1 (h x i))))

-- One finding.
pub confirms_decides : (s : List Bool) (f : Finding) → Decides (confirms s f) (has s f.statement ≡ f.present)
confirms_decides s f = by_presence (has s f.statement) f.present
  where
    by_presence : (x y : Bool) → Decides (cond y x (not x)) (x ≡ y)
    by_presence x true = ((λ h. h), (λ h. h))
    by_presence x false = ((λ h. not-true x h), (λ h. not_from_false x h))

-- Of a list with places: where a test decides a fact of each place, passing everywhere decides the fact of all places.
pub places_decided : {X : Type 0} (p : ℕ × X → Bool) (P : ℕ → X → Type 0) → ((k : ℕ) (x : X) → Decides (p (k, x)) (P k x)) → (d : X) (n : ℕ) (xs : List X) → Decides (list_all p (enumerate_from n xs)) ((k : ℕ) → k < length xs → P (n + k) (get_or xs k d))
places_decided p P e d n [] = ((λ _ k l. absurd (omega (arith, l))), (λ _. refl))
places_decided {X} p P e d n (x ∷ xs) =
    let rest = places_decided p P e d (n + 1) xs in (
      (λ h. let both = and_parts _ _ h in λ k. at_place ((e n x).0 both.0) (rest.0 both.1) k),
      (λ h. and_from _ _ ((e n x).1 (subst (λ i. P i x) (omega arith) (h 0 (omega arith)))) (rest.1 (λ k l. subst (λ i. P i (get_or xs k d)) (omega arith) (h (suc k) (omega (arith, l)))))),
    )
  where
    at_place : P n x → ((k : ℕ) → k < length xs → P (n + 1 + k) (get_or xs k d)) → (k : ℕ) → k < length (x ∷ xs) → P (n + k) (get_or (x ∷ xs) k d)
    at_place first later zero l = subst (λ i. P i x) (omega arith) first
    at_place first later (suc k) l = subst (λ i. P i (get_or xs k d)) (omega arith) (later k (omega (arith, l)))

-- One mark and the statement that it allows.
abbrev pub allowed : List Bool → ℕ × Mark → Bool
allowed s p = allows p.1 (has s p.0)

allowed_decides : (s : List Bool) (q : ℕ) (v : Mark) → Decides (allowed s (q, v)) (Allows v (has s q))
allowed_decides s q Open = ((λ _ x h. absurd (open_unmarked x h)), (λ _. refl))
allowed_decides s q In = ((λ h x k. h ∙ marked_once true x refl k), (λ al. al true refl))
allowed_decides s q Out = ((λ h x k. not-true (has s q) h ∙ marked_once false x refl k), (λ al. not_from_false (has s q) (al false refl)))

-- One mark and what another marking has in its place.
abbrev pub kept : List Mark → ℕ × Mark → Bool
kept n p = is_kept p.1 (at n p.0)

same_mark : (v w : Mark) → Decides (is_kept v w) ((x : Bool) → v ≡ marked x → w ≡ marked x)
same_mark Open w = ((λ _ x h. absurd (open_unmarked x h)), (λ _. refl))
same_mark In Open = ((λ h. absurd (false≢true h)), (λ k. absurd (open_unmarked true (k true refl))))
same_mark In In = ((λ _ x h. h), (λ _. refl))
same_mark In Out = ((λ h. absurd (false≢true h)), (λ k. absurd (true≢false (marked_once true false (k true refl) refl))))
same_mark Out Open = ((λ h. absurd (false≢true h)), (λ k. absurd (open_unmarked false (k false refl))))
same_mark Out In = ((λ h. absurd (false≢true h)), (λ k. absurd (true≢false (marked_once true false refl (k false refl)))))
same_mark Out Out = ((λ _ x h. h), (λ _. refl))

from_zero : (q : ℕ) → 0 + q ≡ q
from_zero q = omega arith

-- Markings: past the end nothing is marked.
pub agrees_decided : (m : List Mark) (s : List Bool) → Decides (list_all (allowed s) (enumerate_from 0 m)) (Agrees m s)
agrees_decided m s =
    let d = places_decided (allowed s) (λ q v. Allows v (has s q)) (allowed_decides s) Open 0 m in (
      (λ h q. subst (λ i. Allows (at m q) (has s i)) (from_zero q) (λ x e. d.0 h q (marked_inside m q x e) x e)),
      (λ h. d.1 (λ q l. subst (λ i. Allows (at m q) (has s i)) (sym (from_zero q)) (h q))),
    )

pub below_decided : (m n : List Mark) → Decides (list_all (kept n) (enumerate_from 0 m)) (Below m n)
below_decided m n =
    let d = places_decided (kept n) (λ q v. (x : Bool) → v ≡ marked x → at n q ≡ marked x) (λ q v. same_mark v (at n q)) Open 0 m in (
      (λ h q x e. ap (at n) (sym (from_zero q)) ∙ d.0 h q (marked_inside m q x e) x e),
      (λ h. d.1 (λ q l x e. ap (at n) (from_zero q) ∙ h q x e)),
    )

-- The first difference of two rows decides.
pub first_difference : (a b : List Bool) (q : ℕ) → ((k : ℕ) → k < q → has a k ≡ has b k) → (has a q ≡ has b q → ⊥) → Decides (has a q) (Precedes a b)
first_difference a b q same differs = (
  (λ h. record { at = q; same = same; first = h; second = other (has a q) (has b q) h differs }),
  (λ p. at_first p (cases_lt p.at q) (cases_eq p.at q)),
)
  where
    other : (x y : Bool) → x ≡ true → (x ≡ y → ⊥) → y ≡ false
    other x true e n = absurd (n e)
    other x false e n = refl

    at_first : (p : Precedes a b) → (p.at < q) ⊎ (q ≤ p.at) → (p.at ≡ q) ⊎ (p.at ≡ q → ⊥) → has a q ≡ true
    at_first p (inl l) e = absurd (both_ways (has b p.at) p.second (sym (same p.at l) ∙ p.first))
    at_first p (inr l) (inl e) = ap (has a) (sym e) ∙ p.first
    at_first p (inr l) (inr n) = absurd (differs (p.same q (omega arith)))

pub no_difference : (a b : List Bool) (n : ℕ) → length a ≤ n → ((k : ℕ) → k < n → has a k ≡ has b k) → Precedes a b → ⊥
no_difference a b n l same p =
    ⊎_elim
    (λ h. both_ways (has b p.at) p.second (sym (same p.at h) ∙ p.first))
    (λ h. both_ways (has a p.at) (get_or_past a p.at false (omega arith)) p.first)
    (cases_lt p.at n)

-- Of two rows of one length: whether no place has what the other lacks there decides whether one is a part of the other.
pub part_decided : (t s : List Bool) → length t ≡ length s → Decides (list_all (λ p. not p.0 || p.1) (zip t s)) (Part t s)
part_decided [] [] e = ((λ _ q h. h), (λ _. refl))
part_decided [] (y ∷ s) e = absurd (omega (arith, e))
part_decided (x ∷ t) [] e = absurd (omega (arith, e))
part_decided (x ∷ t) (y ∷ s) e =
    let rest = part_decided t s (omega (arith, e)) in (
      (λ h. let both = and_parts _ _ h in λ q. first x y both.0 (rest.0 both.1) q),
      (λ p. and_from _ _ (follows x y (p 0)) (rest.1 (λ q. p (suc q)))),
    )
  where
    follows : (x y : Bool) → (x ≡ true → y ≡ true) → (not x || y) ≡ true
    follows false y f = refl
    follows true y f = f refl

    first : (x y : Bool) → (not x || y) ≡ true → Part t s → (q : ℕ) → has (x ∷ t) q ≡ true → has (y ∷ s) q ≡ true
    first false y h p zero g = absurd (false≢true g)
    first true y h p zero g = h
    first x y h p (suc q) g = p q g
