-- What stands at each place of a table, opened or not, and past the last place.
use Rattle.std.proofs.Common.{◌≡◌, ℕ, ◌+◌, ◌-◌, ◌*◌, ◌<◌, ◌≤◌, true, false, List, [], ◌∷◌, length, get_or, pos, is_ok, sym, refl, ap, ◌∙◌, inl, inr, one-mul, arith, Option, None, Some, MatchOption, Ok}
use Rattle.format.specs.Aggregates.{aggregate_at, first_member, member_count}
use Rattle.layout.specs.Bytes.{byte_at}
use Rattle.format.specs.Check.{accepted, counts_of, faults, none}
use Rattle.format.specs.Faults.{verdict}
use Rattle.format.specs.declared.check.Counts.{Counts}
use Rattle.layout.specs.Areas.{count, offset, size}
use Rattle.format.specs.Rules.{aggregate_count, first_aggregate, first_literal, head_count, negative_count, positive_count, rule_at}
use Rattle.format.specs.Statements.{name_at, statement_at}
use Rattle.layout.specs.declared.records.Record.{Record}
use Rattle.layout.specs.declared.area.Area.{Area}
use Rattle.layout.specs.declared.area.Area.TheVariants.{Statements, Rules, Literals, Aggregates, Members, Names}
use Rattle.refusal.specs.declared.Fault.{Fault}
use Rattle.semantics.specs.declared.Relation.TheVariants.{Less}
use Rattle.std.proofs.lemmas.List.FromFn.{get_or-map-range_with_len}
use Rattle.std.proofs.lemmas.List.{get_or_past}
use Rattle.std.proofs.lemmas.Bool.{cases_Bool, cond_below, cond-false, cond-true}
use Rattle.table.proofs.Clean.{Clean, clean}
use Rattle.table.proofs.Held.{aggregates_count, contents_held, literals_count, members_count, names_count, rules_count}
use Rattle.table.proofs.Limits.{member_limits, names_total}
use Rattle.table.proofs.Records.{aggregate_fits, aggregates_inside, literal_fits, literals_inside, member_runs, members_inside}
use Rattle.table.proofs.Runs.{run_with}
use Rattle.table.proofs.Slices.{slice_at}
use Rattle.table.specs.Contents.{aggregate_held, aggregates_held, contents, held, literals_held, member_held, members_held, names_held, nothing, rule_held, rules_held, slice}
use Rattle.table.specs.Limits.{MemberLimits, how_many}
use Rattle.table.specs.View.{Covers, ShowsRecord, ShowsAggregate, ShowsRule, aggregate_read, count_held, count_in, kind_place, member_read, name_read, no_aggregate, no_member, no_rule, rule_read, run}
use Rattle.table.specs.declared.table.Run.{Run}

-- The check says Ok exactly of accepted bytes.
ok_when_none : {X : Type 0} (fs : List Fault) (x : X) → is_ok (verdict fs x) ≡ none fs
ok_when_none [] x = refl
ok_when_none (f ∷ fs) x = refl

pub ok_accepted : (b : List ℕ) → is_ok (verdict (faults b) (counts_of b)) ≡ accepted b
unfolding accepted
ok_accepted b = ok_when_none (faults b) (counts_of b)

-- How much there is of each kind.
contents_shut : (b : List ℕ) → accepted b ≡ false → contents b ≡ nothing
unfolding contents
contents_shut b e = cond-false (accepted b) (held b) nothing e

held_many : (b : List ℕ) → Clean b → (a : Area) → how_many (held b) a ≡ count b a
held_many b c Statements = names_count b
held_many b c Rules = rules_count b
held_many b c Literals = literals_count b c
held_many b c Aggregates = aggregates_count b
held_many b c Members = members_count b
held_many b c Names = names_total b c

none_many : (a : Area) → how_many nothing a ≡ 0
none_many Statements = refl
none_many Rules = refl
none_many Literals = refl
none_many Aggregates = refl
none_many Members = refl
none_many Names = refl

pub many_opened : (b : List ℕ) (a : Area) → accepted b ≡ true → how_many (contents b) a ≡ count b a
many_opened b a e = rw (contents_held b e) (held_many b (clean b e) a)

pub many_shut : (b : List ℕ) (a : Area) → accepted b ≡ false → how_many (contents b) a ≡ 0
many_shut b a e = rw (contents_shut b e) (none_many a)

pub many : (b : List ℕ) (a : Area) → how_many (contents b) a ≡ count_held b a
many b a =
    elim (cases_Bool (accepted b)) [
      | inl e ↦ many_opened b a e ∙ sym (cond-true (accepted b) (count b a) 0 e)
      | inr e ↦ many_shut b a e ∙ sym (cond-false (accepted b) (count b a) 0 e)
    ]

-- How many records of an area are held, by the counts that the check gives, or by its fault.
verdict_gives : {X : Type 0} (fs : List Fault) (x y : X) → verdict fs x ≡ Ok y → x ≡ y
verdict_gives [] x y e = cc
verdict_gives (f ∷ fs) x y e = absurd (cc)

counts_in : (b : List ℕ) (area : Area) → count_in (counts_of b) area ≡ count b area
counts_in b Statements = refl
counts_in b Rules = refl
counts_in b Literals = refl
counts_in b Aggregates = refl
counts_in b Members = refl
counts_in b Names = refl

pub held_by_counts : (b : List ℕ) (area : Area) (counts : Counts) → verdict (faults b) (counts_of b) ≡ Ok counts → count_in counts area ≡ count_held b area
held_by_counts b area counts e =
    rw (← verdict_gives (faults b) (counts_of b) counts e)
    (counts_in b area ∙ sym (cond-true (accepted b) (count b area) 0 (sym (ok_accepted b) ∙ ap is_ok e)))

pub held_by_fault : (b : List ℕ) (area : Area) → is_ok (verdict (faults b) (counts_of b)) ≡ false → count_held b area ≡ 0
held_by_fault b area e = cond-false (accepted b) (count b area) 0 (sym (ok_accepted b) ∙ e)

-- the kind of an aggregate that there is stands where its record begins
pub kind_placed : (b : List ℕ) (j : ℕ) → j < length (contents b).aggregates → kind_place b j ≡ aggregate_at b j
kind_placed b j l = sym (cond_below j (count_held b Aggregates) (aggregate_at b j) 0 (omega (arith, many b Aggregates)))

-- a record is held only by a table that was opened
held_below : (b : List ℕ) (area : Area) (i : ℕ) → i < count_held b area → (accepted b ≡ true) × (i < count b area)
held_below b area i l =
    elim (cases_Bool (accepted b)) [
      | inl h ↦ (h, rw h at l)
      | inr h ↦ absurd (omega (arith, rw h at l))
    ]

-- what holds past the last place, and of what is read from the record at a place, holds of what is read
pub read_there : {X none : Type 0} {b : List ℕ} {i : ℕ} (area : Area) (o : Option Record) (read : List ℕ → ℕ → X) (r : X) (P : X → Type 0) → ShowsRecord b area i o → MatchOption o none (λ x. r ≡ read x.bytes.now x.at) → (count_held b area ≤ i → none → P r) → (accepted b ≡ true → i < count b area → P (read b (offset b area + size area * i))) → P r
read_there area None read r P shown e past there = past shown e
read_there {b = b} {i = i} area (Some x) read r P shown e past there = let h = held_below b area i shown.below in rw (e, shown.bytes, shown.at) (there h.0 h.1)

-- Past the last place.
abbrev no_run : Run
no_run = record { first = 0; end = 0 }

covers_none : {X : Type 0} (all : List X) → Covers all [] no_run
covers_none all = record { part = refl; forward = omega arith; inside = omega arith }

module _ (b : List ℕ) (i : ℕ) where
  pub past_literals : count_held b Literals ≤ i → length (contents b).literals ≤ i
  past_literals h = omega (arith, many b Literals)

  pub past_members : count_held b Members ≤ i → length (contents b).members ≤ i
  past_members h = omega (arith, many b Members)

  pub past_names : count_held b Statements ≤ i → [] ≡ get_or (contents b).names i []
  past_names h = sym (get_or_past (contents b).names i [] (omega (arith, many b Statements)))

  pub shows_no_rule : count_held b Rules ≤ i → ShowsRule (contents b) (get_or (contents b).rules i no_rule) (record { head = no_run; positive = no_run; negative = no_run; aggregates = no_run })
  shows_no_rule h =
      rw (get_or_past (contents b).rules i no_rule (omega (arith, many b Rules)))
      (record { head = covers_none _; positive = covers_none _; negative = covers_none _; aggregates = covers_none _; adjacent = refl })

  pub shows_no_aggregate : count_held b Aggregates ≤ i → ShowsAggregate (contents b) (get_or (contents b).aggregates i no_aggregate) (record { kind = 0; relation = Less; bound = pos 0; members = no_run })
  shows_no_aggregate h =
      rw (get_or_past (contents b).aggregates i no_aggregate (omega (arith, many b Aggregates)))
      (record { kind = refl; relation = refl; bound = refl; members = covers_none _; few = omega arith })

-- The places of a table that was opened.
covers_run : {X : Type 0} (all : List X) (first n : ℕ) → first + n ≤ length all → Covers all (slice first n all) (run first n)
covers_run all first n h =
    let e : n ≡ (first + n) - first = omega arith in
    record { part = ap (λ k. slice first k all) e; forward = omega arith; inside = h }

module _ (b : List ℕ) (ok : accepted b ≡ true) where
  faultless : Clean b
  faultless = clean b ok

  statements_known : length (contents b).names ≡ count b Statements
  statements_known = many_opened b Statements ok

  pub shows_rule : (i : ℕ) → i < count b Rules → ShowsRule (contents b) (get_or (contents b).rules i no_rule) (rule_read b (rule_at b i))
  unfolding rules_held
  shows_rule i l =
      let inside = literals_inside b faultless i l in
      let literals = literals_count b faultless in
      let first = first_literal b i in
      rw (contents_held b ok, get_or-map-range_with_len (rule_held b) 0 (count b Rules) i i no_rule l (omega arith))
      (record {
        head = covers_run (literals_held b) first (head_count b i) (omega arith);
        positive = covers_run (literals_held b) (first + head_count b i) (positive_count b i) (omega arith);
        negative = covers_run (literals_held b) (first + head_count b i + positive_count b i) (negative_count b i) (omega arith);
        aggregates = covers_run (aggregates_held b) (first_aggregate b i) (aggregate_count b i) (omega (arith, aggregates_inside b faultless i l, aggregates_count b));
        adjacent = refl;
      })

  pub shows_aggregate : (j : ℕ) → j < count b Aggregates → ShowsAggregate (contents b) (get_or (contents b).aggregates j no_aggregate) (aggregate_read b (aggregate_at b j))
  unfolding aggregates_held
  shows_aggregate j l =
      rw (contents_held b ok, get_or-map-range_with_len (aggregate_held b) 0 (count b Aggregates) j j no_aggregate l (omega arith))
      (record {
        kind = refl;
        relation = refl;
        bound = refl;
        members = covers_run (members_held b) (first_member b j) (member_count b j) (omega (arith, members_inside b faultless j l, members_count b));
        few = let h = (aggregate_fits b j (faultless.aggregate j l)).few in omega arith;
      })

  pub literal_there : (k : ℕ) → k < count b Literals → byte_at b (offset b Literals + 1 * k) ≡ get_or (contents b).literals k 0
  unfolding literals_held
  literal_there k l =
      rw (contents_held b ok, one-mul) (sym (slice_at (offset b Literals) (count b Literals) b k 0 l))

  pub literal_known : (k : ℕ) → k < count b Literals → byte_at b (offset b Literals + 1 * k) < length (contents b).names
  literal_known k l = rw one-mul (omega (arith, literal_fits b k (faultless.literal k l), statements_known))

  pub member_there : (k : ℕ) → k < count b Members → member_read b (offset b Members + 8 * k) ≡ get_or (contents b).members k no_member
  unfolding members_held
  member_there k l =
      rw (contents_held b ok) (sym (get_or-map-range_with_len (member_held b) 0 (count b Members) k k no_member l (omega arith)))

  -- every member is in the set of an aggregate
  pub member_known : (k : ℕ) → k < count b Members → MemberLimits (length (contents b).names) (member_read b (offset b Members + 8 * k))
  member_known k l =
      let p = run_with (count b Aggregates) (member_runs b faultless) k (omega (arith, faultless.members_filled)) in
      rw (contents_held b ok, p.2.2) (member_limits b faultless p.0 p.2.0 p.1 p.2.1)

  pub name_there : (i : ℕ) → i < count b Statements → name_read b (statement_at b i) ≡ get_or (contents b).names i []
  unfolding names_held
  name_there i l =
      rw (contents_held b ok) (sym (get_or-map-range_with_len (name_at b) 0 (count b Statements) i i [] l (omega arith)))
