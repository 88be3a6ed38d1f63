-- Visits made one after the other.
use Rattle.std.proofs.Common.{◌≡◌, ◌≢◌, ℕ, zero, suc, ◌+◌, ◌<◌, ◌≤◌, List, [], ◌∷◌, ◌++◌, map, length, take, set, get_or, refl, sym, ap, ◌∙◌, subst, inl, inr, ⊎_elim, ◌⊎◌, arith}
use Rattle.semantics.proofs.Lists.{nth_same}
use Rattle.semantics.specs.Families.{Values}
use Rattle.semantics.specs.Lists.{Nth}
use Rattle.sheet.proofs.Ledgers.{ledger_more}
use Rattle.sheet.specs.Ledger.{after, ledger}
use Rattle.sheet.specs.Runs.{AllMade, Made, visit_of}
use Rattle.sheet.specs.Sheets.{standing}
use Rattle.sheet.specs.declared.sheet.Sheet.{Sheet}
use Rattle.sheet.specs.declared.visits.Entry.{Entry}
use Rattle.std.proofs.lemmas.List.{length-set, map-append, take_all, take_more}

module _ {X : Type 0} where
  -- what stands at a place of a list after one place is set
  nth_set : (xs : List X) (i j : ℕ) (y x : X) → Nth (set xs i y) j x → ((j ≡ i) × (y ≡ x)) ⊎ ((j ≢ i) × Nth xs j x)
  nth_set [] i j y x h = absurd h
  nth_set (z ∷ zs) zero zero y x h = inl (refl, h)
  nth_set (z ∷ zs) zero (suc j) y x h = inr ((λ e. omega (arith, e)), h)
  nth_set (z ∷ zs) (suc i) zero y x h = inr ((λ e. omega (arith, e)), h)
  nth_set (z ∷ zs) (suc i) (suc j) y x h =
      ⊎_elim (λ (e, f). inl (ap suc e, f)) (λ (n, f). inr ((λ e. n (omega (arith, e))), f)) (nth_set zs i j y x h)

  nth_kept : (xs : List X) (i j : ℕ) (y x : X) → (j ≢ i) → Nth xs j x → Nth (set xs i y) j x
  nth_kept [] i j y x n h = absurd h
  nth_kept (z ∷ zs) zero zero y x n h = absurd (n refl)
  nth_kept (z ∷ zs) zero (suc j) y x n h = h
  nth_kept (z ∷ zs) (suc i) zero y x n h = h
  nth_kept (z ∷ zs) (suc i) (suc j) y x n h = nth_kept zs i j y x (λ e. n (ap suc e)) h

-- the first i visits are made
pub record FirstMade (kinds : ℕ) (value : Values) (b : List ℕ) (n i : ℕ) (before now : List Entry) (sheet : Sheet) : Type 0 where
  pub long : length now ≡ length before
  pub each : (j : ℕ) (e d : Entry) → j < i → Nth before j e → Nth now j d → Made kinds value b n (ledger n (map visit_of (take j before))) e d
  pub rest : (j : ℕ) (e : Entry) → i ≤ j → Nth before j e → Nth now j e
  pub statements : sheet.statements ≡ n
  pub standing : standing sheet ≡ ledger n (map visit_of (take i before))

nth_at : {X : Type 0} (xs : List X) (i : ℕ) (d : X) → i < length xs → Nth xs i (get_or xs i d)
nth_at [] i d l = absurd (omega (arith, l))
nth_at (x ∷ xs) zero d l = refl
nth_at (x ∷ xs) (suc i) d l = nth_at xs i d (omega (arith, l))

nth_inside : {X : Type 0} (xs : List X) (i : ℕ) (x : X) → Nth xs i x → i < length xs
nth_inside [] i x h = absurd h
nth_inside (y ∷ ys) zero x h = omega arith
nth_inside (y ∷ ys) (suc i) x h = let l = nth_inside ys i x h in omega (arith, l)

module _ (kinds : ℕ) (value : Values) (b : List ℕ) (n : ℕ) where
  -- the ledger of one visit more
  ledger_next : (before : List Entry) (i : ℕ) (x : Entry) → i < length before → Nth before i x → ledger n (map visit_of (take (i + 1) before)) ≡ after n x.visit (ledger n (map visit_of (take i before)))
  ledger_next before i x l h =
      let e : get_or before i x ≡ x = nth_same before i (get_or before i x) x (nth_at before i x l) h in
      ap (λ es. ledger n (map visit_of es)) (take_more before i x l ∙ ap (λ y. take i before ++ y ∷ []) e)
      ∙ ap (ledger n) (map-append visit_of (take i before) (x ∷ []))
      ∙ ledger_more n (map visit_of (take i before)) x.visit

  -- one visit more is made
  pub more_made : (i : ℕ) (before now : List Entry) (sheet next : Sheet) (d made : Entry)
      → FirstMade kinds value b n i before now sheet → i < length before
      → Made kinds value b sheet.statements (standing sheet) (get_or now i d) made
      → standing next ≡ after sheet.statements (get_or now i d).visit (standing sheet) → next.statements ≡ sheet.statements
      → FirstMade kinds value b n (i + 1) before (set now i made) next
  more_made i before now sheet next d made f l m s k =
      record {
        long = length-set now i made ∙ f.long;
        each = λ j a c lt h g.
            ⊎_elim
            (λ (same, is). subst (λ (c : Entry). Made kinds value b n (ledger n (map visit_of (take j before))) a c) is (subst (λ (a : Entry). Made kinds value b n (ledger n (map visit_of (take j before))) a made) (nth_same before i x a here (subst (λ q. Nth before q a) same h)) (subst (λ q. Made kinds value b n (ledger n (map visit_of (take q before))) x made) (sym same) made_here)))
            (λ (other, g). f.each j a c (omega (arith, lt, other)) h g)
            (nth_set now i j made c g);
        rest = λ j a lt h. nth_kept now i j made a (λ q. omega (arith, q, lt)) (f.rest j a (omega (arith, lt)) h);
        statements = k ∙ f.statements;
        standing = s ∙ ap (λ q. after q x.visit (standing sheet)) f.statements ∙ ap (after n x.visit) f.standing ∙ sym (ledger_next before i x l here);
      }
    where
      x : Entry
      x = get_or now i d

      there : Nth now i x
      there = nth_at now i d (omega (arith, l, f.long))

      here : Nth before i x
      here =
          let y = get_or before i x in
          let yes : Nth before i y = nth_at before i x l in
          subst (Nth before i) (nth_same now i y x (f.rest i y (omega arith) yes) there) yes

      made_here : Made kinds value b n (ledger n (map visit_of (take i before))) x made
      made_here = subst (λ q. Made kinds value b q (ledger n (map visit_of (take i before))) x made) f.statements (subst (λ fs. Made kinds value b sheet.statements fs x made) f.standing m)

  -- all are made
  pub all_made : (before now : List Entry) (i : ℕ) (sheet : Sheet) → length before ≤ i → FirstMade kinds value b n i before now sheet → AllMade kinds value b n before now sheet
  all_made before now i sheet l f = record {
    long = f.long;
    each = λ j e d h g. f.each j e d (omega (arith, l, nth_inside before j e h)) h g;
    statements = f.statements;
    standing = f.standing ∙ ap (λ es. ledger n (map visit_of es)) (take_all i before l);
  }
