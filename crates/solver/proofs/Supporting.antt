-- On which rule a statement of a row stands: what tells that a rule supports it, and which is the first to.
use Rattle.std.proofs.Common.{◌≡◌, ◌≢◌, ◌↔◌, IsTrue, ℕ, ◌+◌, ◌<◌, ◌==◌, Bool, true, false, not, ◌&&◌, ◌||◌, List, [], ◌∷◌, length, get_or, map, set, cond, Decides, position, slice_index, Some, None, Option, sym, refl, ap, ◌∙◌, subst, ⊎_elim, arith}
use Rattle.std.proofs.lemmas.Bool.{and_parts, and_from, both_ways, cases_Bool, cases_eq, eq-eqb, eqb-true, ne_eqb, or_left, or_right}
use Rattle.std.proofs.lemmas.List.{ext_get_or, get_or-map, get_or-set_other, get_or-set_same, length-map}
use Rattle.std.proofs.lemmas.List.FromFn.{get_or-map-range_with_len, length-map-range_with_len}
use Rattle.std.specs.List.{list_all, list_any}
use Rattle.semantics.proofs.AnswerSets.{supported}
use Rattle.semantics.proofs.FullMarkings.{in_row}
use Rattle.semantics.proofs.Lists.{all_at, all_from, any_from, any_one}
use Rattle.semantics.proofs.Marks.{open_unmarked}
use Rattle.semantics.specs.AnswerSets.{AnswerSet, BodyTrue, Supports, counts}
use Rattle.semantics.specs.Families.{Values}
use Rattle.semantics.specs.FullMarkings.{is_in, row_of}
use Rattle.semantics.specs.Lists.{Among}
use Rattle.semantics.specs.Markings.{at, marked}
use Rattle.semantics.specs.Programs.{Program, Rule}
use Rattle.semantics.specs.Rows.{has}
use Rattle.semantics.specs.declared.Mark.{Mark}
use Rattle.semantics.specs.declared.Mark.TheVariants.{Open, In}
use Rattle.solver.proofs.First.{FirstOrNone, first_or_none}
use Rattle.solver.specs.Reducts.{Whole}
use Rattle.solver.specs.Support.{OnlyHead, StandsOn, by_first, row_read, support_of, supports}
use Rattle.solver.specs.declared.support.Support.TheVariants.{ByNone, NotIn}
use Rattle.table.specs.View.{no_rule}

-- a rule supports q where its body is true, and of its head q only is in s
pub supports_told : (value : Values) (s : List Bool) (q : ℕ) (r : Rule) → OnlyHead s q r → BodyTrue value s r → Supports value s q r
supports_told value s q r only body = record { body = body; heads = only.heads; alone = only.alone }

pub only_of : (value : Values) (s : List Bool) (q : ℕ) (r : Rule) → Supports value s q r → OnlyHead s q r
only_of value s q r u = record { heads = u.heads; alone = u.alone }

-- the test of a rule decides whether it supports q
pub supports_decides : (value : Values) (s : List Bool) (q : ℕ) (r : Rule) → Decides (supports value s q r) (Supports value s q r)
supports_decides value s q r = (yes, no)
  where
    is_q : ℕ → Bool
    is_q o = o == q

    spares : ℕ → Bool
    spares o = (o == q) || not (has s o)

    spared : (o : ℕ) → spares o ≡ true → has s o ≡ true → o ≡ q
    spared o e h = ⊎_elim (λ t. t) (λ d. absurd (both_ways (spares o) (ap (λ b. b || not (has s o)) (ne_eqb o q d) ∙ ap not h) e)) (cases_eq o q)

    spare : (o : ℕ) → (has s o ≡ true → o ≡ q) → spares o ≡ true
    spare o h = ⊎_elim (λ t. or_left (o == q) (not (has s o)) (eq-eqb o q (h t))) (λ f. or_right (o == q) (not (has s o)) (ap not f)) (cases_Bool (has s o))

    yes : supports value s q r ≡ true → Supports value s q r
    yes t =
        let both = and_parts (counts value s r && list_all (has s) r.positive) (list_any is_q r.head && list_all spares r.head) t in
        let body = and_parts (counts value s r) (list_all (has s) r.positive) both.0 in
        let head = and_parts (list_any is_q r.head) (list_all spares r.head) both.1 in
        let (o, i, e) = any_one is_q r.head head.0 in
        record {
          body = record { counted = body.0; positives = body.1 };
          heads = subst (λ x. Among x r.head) (eqb-true o q e) i;
          alone = λ o i h. spared o (all_at spares r.head o head.1 i) h;
        }

    no : Supports value s q r → supports value s q r ≡ true
    no u =
        and_from (counts value s r && list_all (has s) r.positive) (list_any is_q r.head && list_all spares r.head)
        (and_from (counts value s r) (list_all (has s) r.positive) u.body.counted u.body.positives)
        (and_from (list_any is_q r.head) (list_all spares r.head) (any_from is_q r.head q u.heads (eq-eqb q q refl)) (all_from spares r.head (λ o i. spare o (u.alone o i))))

-- so a test that tells the same is the same
pub supports_same : (value : Values) (s : List Bool) (q : ℕ) (r : Rule) (found : Bool) → (IsTrue found ↔ Supports value s q r) → supports value s q r ≡ found
supports_same value s q r found told = ⊎_elim
    (λ t. (supports_decides value s q r).1 (told.0 t) ∙ sym t)
    (λ f. ⊎_elim (λ t. absurd (both_ways found f (told.1 ((supports_decides value s q r).0 t)))) (λ g. g ∙ sym f) (cases_Bool (supports value s q r)))
    (cases_Bool found)

module _ (value : Values) (p : Program) (s : List Bool) (q : ℕ) where
  stands_by : (o : Option ℕ) → FirstOrNone (supports value s q) p.rules o → has s q ≡ true → StandsOn value p s q (by_first o)
  stands_by (Some i) first h = (
    h,
    record {
      rule = first.element;
      place = first.place;
      supports = (supports_decides value s q first.element).0 first.passes;
      none_before = λ j r l n u. both_ways (supports value s q r) (first.fails_before j r l n) ((supports_decides value s q r).1 u);
    },
  )
  stands_by None none h = (h, λ r i u. both_ways (supports value s q r) (none r i) ((supports_decides value s q r).1 u))

  -- what is said of a statement is so
  pub stands_on : StandsOn value p s q (support_of value p s q)
  stands_on = by_presence (has s q) refl
    where
      by_presence : (b : Bool) → has s q ≡ b → StandsOn value p s q (cond b (by_first (position (supports value s q) p.rules)) NotIn)
      by_presence true h = stands_by (position (supports value s q) p.rules) (first_or_none (supports value s q) p.rules no_rule) h
      by_presence false h = h

  -- of an answer set it is never said that no rule supports a statement
  pub never_by_none : AnswerSet value p s → support_of value p s q ≢ ByNone
  never_by_none a e =
      let (h, none) = subst (StandsOn value p s q) e stands_on in
      let (r, i, u) = supported s q h value p a in
      none r i u

-- the row of a row's marks is that row
pub row_of_marked : (s : List Bool) → row_of (map marked s) ≡ s
row_of_marked [] = refl
row_of_marked (b ∷ s) = ap (λ c. c ∷ row_of (map marked s)) (is_itself b) ∙ ap (λ t. b ∷ t) (row_of_marked s)
  where
    is_itself : (b : Bool) → is_in (marked b) ≡ b
    is_itself true = refl
    is_itself false = refl

-- the first rule that is found to support a statement in a row that bytes stand for
pub said_of : (value : Values) (p : Program) (s : List Bool) (m : List Mark) (q : ℕ) (first : Option ℕ) → m ≡ map marked s → at m q ≡ In → first ≡ position (supports value (row_of m) q) p.rules → by_first first ≡ support_of value p s q
said_of value p s m q first e present f =
    let same : row_of m ≡ s = ap row_of e ∙ row_of_marked s in
    ap by_first f
    ∙ ap (λ t. by_first (position (supports value t q) p.rules)) same
    ∙ sym (ap (λ b. cond b (by_first (position (supports value s q) p.rules)) NotIn) (sym (ap (λ t. has t q) same) ∙ in_row m q present))

-- the row that bytes stand for, as marks
module _ (n : ℕ) (bytes : List ℕ) where
  abbrev is_one : ℕ → Bool
  is_one k = slice_index bytes k == 1

  row_at : (k : ℕ) → k < n → get_or (map marked (row_read n bytes)) k Open ≡ marked (is_one k)
  row_at k l =
      get_or-map marked (row_read n bytes) k false Open (omega (arith, l, length-map-range_with_len is_one 0 n))
      ∙ ap marked (get_or-map-range_with_len is_one 0 n k k false l (omega arith))

  -- one statement more is marked
  pub row_more : (m after : List Mark) (i : ℕ) (b : Bool) (v : Mark) → i < length m → after ≡ set m i v → v ≡ marked b → b ≡ is_one i → ((k : ℕ) → k < i → at m k ≡ marked (is_one k)) → (k : ℕ) → k < i + 1 → at after k ≡ marked (is_one k)
  row_more m after i b v inside e f g done k l = ap (λ r. at r k) e ∙ ⊎_elim
      (λ (same : k ≡ i). rw same (get_or-set_same m i v Open inside ∙ f ∙ ap marked g))
      (λ d. get_or-set_other m i k v Open d ∙ done k (omega (arith, l, d)))
      (cases_eq k i)

  pub row_filled : (m : List Mark) → length m ≡ n → ((k : ℕ) → k < n → at m k ≡ marked (is_one k)) → m ≡ map marked (row_read n bytes)
  row_filled m long done = ext_get_or Open m (map marked (row_read n bytes))
      (omega (arith, long, length-map (row_read n bytes) marked, length-map-range_with_len is_one 0 n))
      (λ k l. done k (omega (arith, l, long)) ∙ sym (row_at k (omega (arith, l, long))))

-- and none of them is open
pub marked_whole : (n : ℕ) (bytes : List ℕ) → Whole n (map marked (row_read n bytes))
marked_whole n bytes = record {
  full = λ q l e. open_unmarked (is_one n bytes q) (sym e ∙ row_at n bytes q (omega (arith, l, length-map (row_read n bytes) marked, length-map-range_with_len (is_one n bytes) 0 n)));
  long = length-map (row_read n bytes) marked ∙ length-map-range_with_len (is_one n bytes) 0 n;
}
