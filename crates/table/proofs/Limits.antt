-- What bytes without faults hold is within the limits of the format.
use Rattle.std.proofs.Common.{◌≡◌, ℕ, ◌+◌, ◌<◌, ◌≤◌, Bool, true, false, cond, List, [], ◌∷◌, length, get_or, ℤ, pos, negsuc, ◌≤ℤ◌, sym, refl, ap, ◌∙◌, add_assoc, arith}
use Rattle.format.specs.Aggregates.{aggregate_at, first_member, member_count, weight_fits}
use Rattle.layout.specs.Bytes.{byte_at}
use Rattle.format.specs.Check.{accepted}
use Rattle.layout.specs.Areas.{count, offset}
use Rattle.format.specs.Rules.{aggregate_count, first_aggregate, first_literal, head_count, negative_count, positive_count}
use Rattle.format.specs.Statements.{name_at, name_length, name_start}
use Rattle.layout.specs.declared.area.Area.TheVariants.{Statements, Rules, Literals, Aggregates, Members, Names}
use Rattle.semantics.specs.Lists.{Among}
use Rattle.semantics.specs.Programs.{Aggregate, Rule}
use Rattle.semantics.specs.declared.Member.{Member}
use Rattle.std.proofs.lemmas.List.FromFn.{get_or-map-range_with_len}
use Rattle.std.proofs.lemmas.Slice.Eq.{bytes_eq-Decides}
use Rattle.std.proofs.lemmas.List.{length-append}
use Rattle.std.proofs.lemmas.Int.{ints}
use Rattle.std.proofs.lemmas.Bool.{and_parts}
use Rattle.std.proofs.lemmas.Bool.Decides.{not_from_Decides}
use Rattle.std.proofs.lemmas.List.Concat.{length-flat_map}
use Rattle.std.proofs.lemmas.List.Sums.{sum_by-append, sum_by-cons}
use Rattle.std.specs.List.{flat_map, sum_by}
use Rattle.table.proofs.Clean.{Clean, clean, fails, few}
use Rattle.table.proofs.Held.{aggregates_count, aggregates_long, aggregates_whole, contents_held, head_long, letters_count, letters_whole, literals_count, literals_of, literals_whole, members_count, members_long, members_whole, name_long, names_count, negative_long, positive_long, rules_count}
use Rattle.table.proofs.Numbers.{whole_fits}
use Rattle.table.proofs.Records.{aggregate_fits, aggregates_inside, letter_fits, literal_fits, literals_inside, member_fits, members_inside, name_inside, rule_fits, statement_fits}
use Rattle.table.proofs.Slices.{among_counted, among_counted_slice, among_slice, slice_at}
use Rattle.table.specs.Contents.{Contents, aggregate_held, aggregates_held, contents, held, literals_held, member_held, members_held, names_held, nothing, rule_held, rules_held, slice}
use Rattle.table.specs.Limits.{AggregateLimits, Bytes, Distinct, Letter, MemberLimits, NameLimits, RuleLimits, WithinLimits, literals_in}
use lib.Signed.{le_z}

-- the statements that a rule names are statements of the table
pub record Known (statements : ℕ) (r : Rule) : Type 0 where
  pub head : (q : ℕ) → Among q r.head → q < statements
  pub positive : (q : ℕ) → Among q r.positive → q < statements
  pub negative : (q : ℕ) → Among q r.negative → q < statements
  pub members : (g : Aggregate) (m : Member) → Among g r.aggregates → Among m g.members → m.statement < statements

-- the sizes of the parts are in all the size of the whole
size_total : {X Y : Type 0} (part : Y → List X) (f : X → ℕ) (ys : List Y) → sum_by (λ y. sum_by f (part y)) ys ≡ sum_by f (flat_map part ys)
size_total part f [] = refl
size_total part f (y ∷ ys) =
    sum_by-cons (λ x. sum_by f (part x)) y ys
    ∙ (ap (λ n. sum_by f (part y) + n) (size_total part f ys) ∙ sym (sum_by-append f (part y) (flat_map part ys)))

weight_range : (w : ℤ) → weight_fits w ≡ true → (negsuc 999999 ≤ℤ w) × (w ≤ℤ pos 1000000)
weight_range w e = let p = and_parts (le_z (negsuc 999999) w) (le_z w (pos 1000000)) e in (omega (arith, ints, p.0), omega (arith, ints, p.1))

module _ (b : List ℕ) (c : Clean b) where
  -- totals
  literals_total : sum_by literals_in (rules_held b) ≡ count b Literals
  literals_total = sym (simp length-append at (length-flat_map literals_of (rules_held b))) ∙ ap length (literals_whole b c) ∙ literals_count b c

  aggregates_total : sum_by (λ r. length r.aggregates) (rules_held b) ≡ count b Aggregates
  aggregates_total = sym (length-flat_map (λ r. r.aggregates) (rules_held b)) ∙ ap length (aggregates_whole b c) ∙ aggregates_count b

  members_total : sum_by (λ r. sum_by (λ g. length g.members) r.aggregates) (rules_held b) ≡ count b Members
  members_total =
      size_total (λ r. r.aggregates) (λ g. length g.members) (rules_held b)
      ∙ ap (sum_by (λ g. length g.members)) (aggregates_whole b c)
      ∙ sym (length-flat_map (λ g. g.members) (aggregates_held b))
      ∙ ap length (members_whole b c) ∙ members_count b

  pub names_total : sum_by length (names_held b) ≡ count b Names
  names_total = sym (length-flat_map (λ name. name) (names_held b)) ∙ ap length (letters_whole b c) ∙ letters_count b c

  -- names
  name_letters : (i : ℕ) → i < count b Statements → (x : ℕ) → Among x (name_at b i) → Letter x
  name_letters i l x m =
      let p = among_slice (offset b Names + name_start b i) (name_length b i) b x m in
      let e : byte_at b (offset b Names + (name_start b i + p.0)) ≡ x
      = ap (byte_at b) (sym (add_assoc (offset b Names) (name_start b i) p.0)) ∙ p.2 0 in
      rw (← e) (letter_fits b (name_start b i + p.0) (c.letter _ (omega (arith, p.1, name_inside b c i l))))

  name_limits : (i : ℕ) → i < count b Statements → NameLimits (name_at b i)
  name_limits i l =
      let fits = statement_fits b i (c.statement i l) in
      record { some = omega (arith, fits.some, name_long b c i l); few = omega (arith, fits.few, name_long b c i l); letters = name_letters i l }

  each_name : (name : List ℕ) → Among name (names_held b) → NameLimits name
  unfolding names_held
  each_name name m = let p = among_counted (name_at b) (count b Statements) name m in rw (← p.2) (name_limits p.0 p.1)

  name_place : (i : ℕ) → i < length (names_held b) → get_or (names_held b) i [] ≡ name_at b i
  unfolding names_held
  name_place i l = get_or-map-range_with_len (name_at b) 0 (count b Statements) i i [] (omega (arith, names_count b)) (omega arith)

  names_once : Distinct (λ i. get_or (names_held b) i []) (length (names_held b))
  names_once i j l m e =
      let same : name_at b i ≡ name_at b j = sym (name_place i (omega arith)) ∙ e ∙ name_place j m in
      let differ = fails _ _ _ (c.name_once j i l (omega (arith, names_count b))) in
      not_from_Decides _ (bytes_eq-Decides (name_at b i) (name_at b j)) differ same

  -- members
  pub member_limits : (j k : ℕ) → j < count b Aggregates → k < member_count b j → MemberLimits (length (names_held b)) (member_held b (first_member b j + k))
  member_limits j k l m =
      let fits = member_fits b j k (c.member j k l m) in
      let w = weight_range _ fits.weight in
      record { known = omega (arith, fits.known, names_count b); low = w.0; high = w.1 }

  each_member : (j : ℕ) → j < count b Aggregates → (m : Member) → Among m (aggregate_held b j).members → MemberLimits (length (names_held b)) m
  unfolding members_held
  each_member j l m a =
      let p = among_counted_slice (member_held b) (count b Members) (first_member b j) (member_count b j) m (members_inside b c j l) a in
      rw (← p.2) (member_limits j p.0 l p.1)

  member_place : (j k : ℕ) → j < count b Aggregates → k < member_count b j → (d : Member) → get_or (aggregate_held b j).members k d ≡ member_held b (first_member b j + k)
  unfolding members_held
  member_place j k l m d =
      slice_at (first_member b j) (member_count b j) (members_held b) k d m
      ∙ get_or-map-range_with_len (member_held b) 0 (count b Members) _ _ d (omega (arith, members_inside b c j l)) (omega arith)

  members_once : (j : ℕ) → j < count b Aggregates → (d : Member) → Distinct (λ k. (get_or (aggregate_held b j).members k d).statement) (length (aggregate_held b j).members)
  members_once j l d i k before inside e =
      let m : k < member_count b j = omega (arith, members_long b c j l) in
      let same = ap (λ x. x.statement) (sym (member_place j i l (omega arith) d)) ∙ e ∙ ap (λ x. x.statement) (member_place j k l m d) in
      (member_fits b j k (c.member j k l m)).once i before same

  -- aggregates
  aggregate_limits : Bytes b → (j : ℕ) → j < count b Aggregates → AggregateLimits (length (names_held b)) (aggregate_held b j)
  aggregate_limits bytes j l =
      let bound = whole_fits b bytes (aggregate_at b j + 8) in
      record {
        kind = bytes (aggregate_at b j);
        low = bound.0;
        high = bound.1;
        few = omega (arith, (aggregate_fits b j (c.aggregate j l)).few, members_long b c j l);
        each = each_member j l;
        once = members_once j l _;
      }

  aggregate_place : (i : ℕ) → i < count b Rules → (g : Aggregate) → Among g (rule_held b i).aggregates → (j : ℕ) × (j < count b Aggregates) × (aggregate_held b j ≡ g)
  unfolding aggregates_held
  aggregate_place i l g a =
      let p = among_counted_slice (aggregate_held b) (count b Aggregates) (first_aggregate b i) (aggregate_count b i) g (aggregates_inside b c i l) a in
      (first_aggregate b i + p.0, omega (arith, p.1, aggregates_inside b c i l), p.2)

  each_aggregate : Bytes b → (i : ℕ) → i < count b Rules → (g : Aggregate) → Among g (rule_held b i).aggregates → AggregateLimits (length (names_held b)) g
  each_aggregate bytes i l g a = let p = aggregate_place i l g a in rw (← p.2) (aggregate_limits bytes p.0 p.1)

  -- rules
  literals_known : (first n : ℕ) → first + n ≤ count b Literals → (q : ℕ) → Among q (slice first n (literals_held b)) → q < length (names_held b)
  unfolding literals_held
  literals_known first n inside q a =
      let p = among_slice first n (literals_held b) q a in
      let e = sym (slice_at (offset b Literals) (count b Literals) b (first + p.0) 0 (omega (arith, p.1))) ∙ p.2 0 in
      rw (names_count b, ← e) (literal_fits b (first + p.0) (c.literal _ (omega (arith, p.1))))

  -- what a rule names is known
  members_known : (i : ℕ) → i < count b Rules → (g : Aggregate) (m : Member) → Among g (rule_held b i).aggregates → Among m g.members → m.statement < length (names_held b)
  members_known i l g m a e =
      let p = aggregate_place i l g a in
      (each_member p.0 p.1 m (rw (← p.2) at e)).known

  rule_known : (i : ℕ) → i < count b Rules → Known (length (names_held b)) (rule_held b i)
  rule_known i l = record {
    head = literals_known (first_literal b i) (head_count b i) (omega (arith, literals_inside b c i l));
    positive = literals_known (first_literal b i + head_count b i) (positive_count b i) (omega (arith, literals_inside b c i l));
    negative = literals_known (first_literal b i + head_count b i + positive_count b i) (negative_count b i) (omega (arith, literals_inside b c i l));
    members = members_known i l;
  }

  each_known : (r : Rule) → Among r (rules_held b) → Known (length (names_held b)) r
  unfolding rules_held
  each_known r m = let p = among_counted (rule_held b) (count b Rules) r m in rw (← p.2) (rule_known p.0 p.1)

  rule_limits : Bytes b → (i : ℕ) → i < count b Rules → RuleLimits (length (names_held b)) (rule_held b i)
  rule_limits bytes i l =
      let fits = rule_fits b i (c.rule i l) in
      record {
        head = omega (arith, fits.head, head_long b c i l);
        positive = omega (arith, fits.positive, positive_long b c i l);
        negative = omega (arith, fits.negative, negative_long b c i l);
        aggregates = omega (arith, fits.aggregates, aggregates_long b c i l);
        head_known = (rule_known i l).head;
        positive_known = (rule_known i l).positive;
        negative_known = (rule_known i l).negative;
        each = each_aggregate bytes i l;
      }

  each_rule : Bytes b → (r : Rule) → Among r (rules_held b) → RuleLimits (length (names_held b)) r
  unfolding rules_held
  each_rule bytes r m = let p = among_counted (rule_held b) (count b Rules) r m in rw (← p.2) (rule_limits bytes p.0 p.1)

  held_within : Bytes b → WithinLimits (held b)
  held_within bytes = record {
    statements = omega (arith, names_count b, few b c Statements);
    rules = omega (arith, rules_count b, few b c Rules);
    literals = omega (arith, literals_total, few b c Literals);
    aggregates = omega (arith, aggregates_total, few b c Aggregates);
    members = omega (arith, members_total, few b c Members);
    names = omega (arith, names_total, few b c Names);
    each_rule = each_rule bytes;
    each_name = each_name;
    names_once = names_once;
  }

pub within_limits : (b : List ℕ) → Bytes b → accepted b ≡ true → WithinLimits (contents b)
within_limits b bytes ok = rw (contents_held b ok) (held_within b (clean b ok) bytes)

-- so much of it holds of every table, opened or not
module _ (b : List ℕ) where
  every_table : (P : Contents → Type 0) → ((c : Clean b) → P (held b)) → P nothing → P (contents b)
  unfolding contents
  every_table P h n = go (accepted b) refl
    where
      go : (ok : Bool) → accepted b ≡ ok → P (cond ok (held b) nothing)
      go true e = h (clean b e)
      go false e = n

  pub names_few : length (contents b).names ≤ 128
  names_few = every_table (λ t. length t.names ≤ 128) (λ c. omega (arith, names_count b, few b c Statements)) (omega arith)

  pub rules_few : length (contents b).rules ≤ 1024
  rules_few = every_table (λ t. length t.rules ≤ 1024) (λ c. omega (arith, rules_count b, few b c Rules)) (omega arith)

  pub rules_known : (r : Rule) → Among r (contents b).rules → Known (length (contents b).names) r
  rules_known = every_table (λ t. (r : Rule) → Among r t.rules → Known (length t.names) r) (λ c. each_known b c) (λ r a. absurd a)
