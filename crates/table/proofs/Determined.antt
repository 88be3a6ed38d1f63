-- Two lists of bytes without faults that hold the same rules and the same names are the same.
use Rattle.std.proofs.Common.{◌≡◌, ℕ, zero, suc, ◌+◌, ◌*◌, ◌<◌, ◌≤◌, List, length, sym, refl, ap, ◌∙◌, one-mul, arith}
use Rattle.format.specs.Aggregates.{aggregate_at, first_member, member_count}
use Rattle.layout.specs.Bytes.{byte_at}
use Rattle.format.specs.Header.{area_end, end_before}
use Rattle.layout.specs.Areas.{count, field_of, offset, size}
use Rattle.format.specs.Rules.{aggregate_count, first_aggregate, first_literal, head_count, negative_count, positive_count, rule_at}
use Rattle.format.specs.Statements.{name_at, name_length, name_start, statement_at}
use Rattle.layout.specs.declared.area.Area.{Area}
use Rattle.layout.specs.declared.area.Area.TheVariants.{Statements, Rules, Literals, Aggregates, Members, Names}
use Rattle.semantics.specs.Codes.{code_of}
use Rattle.std.specs.List.{flat_map}
use Rattle.table.proofs.Alike.{Alike, ◌then◌, alike_moved, alike_number, alike_records, alike_slices, alike_whole, alike_word, both_zero, same_byte}
use Rattle.table.proofs.Clean.{Clean, area_joined, areas_end, clean, is_format, is_length}
use Rattle.table.proofs.Held.{aggregates_count, aggregates_long, aggregates_whole, contents_held, head_long, letters_count, letters_held, letters_whole, literals_count, literals_of, literals_whole, members_count, members_long, members_whole, name_long, names_count, negative_long, positive_long, rules_count}
use Rattle.table.proofs.Records.{aggregate_fits, aggregate_runs, literal_runs, member_fits, member_runs, name_runs, statement_fits}
use Rattle.table.proofs.Runs.{run_with, same_starts}
use Rattle.table.proofs.Slices.{same_counted}
use Rattle.table.specs.Contents.{aggregate_held, aggregates_held, literals_held, member_held, members_held, names_held, relation_of, rule_held, rules_held}
use Rattle.table.specs.Limits.{Bytes, OnlyBytes}

relation_code : (k : ℕ) → k ≤ 5 → code_of (relation_of k) ≡ k
relation_code zero l = refl
relation_code (suc zero) l = refl
relation_code (suc (suc zero)) l = refl
relation_code (suc (suc (suc zero))) l = refl
relation_code (suc (suc (suc (suc zero)))) l = refl
relation_code (suc (suc (suc (suc (suc k))))) l = omega arith

abbrev member_place : List ℕ → ℕ → ℕ
member_place b k = offset b Members + 8 * k

-- every member is in the set of an aggregate, so its padding is zero
member_padded : (b : List ℕ) → Clean b → (k : ℕ) → k < count b Members → (byte_at b (member_place b k + 1) ≡ 0) × (byte_at b (member_place b k + 2) ≡ 0) × (byte_at b (member_place b k + 3) ≡ 0)
member_padded b c k l =
    let p = run_with (count b Aggregates) (member_runs b c) k (omega (arith, c.members_filled)) in
    let fits = member_fits b p.0 p.2.0 (c.member p.0 p.2.0 p.1 p.2.1) in
    rw p.2.2 (fits.padded_low, fits.padded_middle, fits.padded_high)

module _ (b o : List ℕ) (bytes : Bytes b) (bytes' : Bytes o) (c : Clean b) (d : Clean o) (rules : rules_held b ≡ rules_held o) (names : names_held b ≡ names_held o) where
  -- the wholes, each put together from the parts that the rules and the names have
  same_literals : literals_held b ≡ literals_held o
  same_literals = sym (literals_whole b c) ∙ ap (flat_map literals_of) rules ∙ literals_whole o d

  same_aggregates : aggregates_held b ≡ aggregates_held o
  same_aggregates = sym (aggregates_whole b c) ∙ ap (flat_map (λ r. r.aggregates)) rules ∙ aggregates_whole o d

  same_members : members_held b ≡ members_held o
  same_members = sym (members_whole b c) ∙ ap (flat_map (λ g. g.members)) same_aggregates ∙ members_whole o d

  same_letters : letters_held b ≡ letters_held o
  same_letters = sym (letters_whole b c) ∙ ap (flat_map (λ name. name)) names ∙ letters_whole o d

  same_count : (a : Area) → count b a ≡ count o a
  same_count Statements = sym (names_count b) ∙ ap length names ∙ names_count o
  same_count Rules = sym (rules_count b) ∙ ap length rules ∙ rules_count o
  same_count Literals = sym (literals_count b c) ∙ ap length same_literals ∙ literals_count o d
  same_count Aggregates = sym (aggregates_count b) ∙ ap length same_aggregates ∙ aggregates_count o
  same_count Members = sym (members_count b) ∙ ap length same_members ∙ members_count o
  same_count Names = sym (letters_count b c) ∙ ap length same_letters ∙ letters_count o d

  also : (a : Area) (i : ℕ) → i < count b a → i < count o a
  also a i l = rw (← same_count a) l

  -- a number that both say of the items that they share
  same_number : {X : Type 0} (a : Area) (item : List ℕ → ℕ → X) → ((i : ℕ) → i < count b a → item b i ≡ item o i) → (measure : X → ℕ) (number : List ℕ → ℕ → ℕ) → ((x : List ℕ) → Clean x → (i : ℕ) → i < count x a → measure (item x i) ≡ number x i) → (i : ℕ) → i < count b a → number b i ≡ number o i
  same_number a item same measure number is i l = sym (is b c i l) ∙ ap measure (same i l) ∙ is o d i (also a i l)

  -- statement by statement
  same_name : (i : ℕ) → i < count b Statements → name_at b i ≡ name_at o i
  unfolding names_held
  same_name = same_counted (name_at b) (name_at o) (count b Statements) (count o Statements) names (same_count Statements)

  same_name_length : (i : ℕ) → i < count b Statements → name_length b i ≡ name_length o i
  same_name_length = same_number Statements name_at same_name length name_length name_long

  same_name_start : (i : ℕ) → i < count b Statements → name_start b i ≡ name_start o i
  same_name_start = same_starts (name_runs b c) (name_runs o d) (same_count Statements) same_name_length

  statement_alike : (i : ℕ) → i < count b Statements → Alike b o (statement_at b i) (statement_at o i) 4
  statement_alike i l =
      alike_word bytes bytes' (same_name_start i l)
      then same_byte (same_name_length i l)
      then both_zero (statement_fits b i (c.statement i l)).padded (statement_fits o i (d.statement i (also Statements i l))).padded

  -- rule by rule
  same_rule : (i : ℕ) → i < count b Rules → rule_held b i ≡ rule_held o i
  unfolding rules_held
  same_rule = same_counted (rule_held b) (rule_held o) (count b Rules) (count o Rules) rules (same_count Rules)

  same_head_count : (i : ℕ) → i < count b Rules → head_count b i ≡ head_count o i
  same_head_count = same_number Rules rule_held same_rule (λ r. length r.head) head_count head_long

  same_positive_count : (i : ℕ) → i < count b Rules → positive_count b i ≡ positive_count o i
  same_positive_count = same_number Rules rule_held same_rule (λ r. length r.positive) positive_count positive_long

  same_negative_count : (i : ℕ) → i < count b Rules → negative_count b i ≡ negative_count o i
  same_negative_count = same_number Rules rule_held same_rule (λ r. length r.negative) negative_count negative_long

  same_aggregate_count : (i : ℕ) → i < count b Rules → aggregate_count b i ≡ aggregate_count o i
  same_aggregate_count = same_number Rules rule_held same_rule (λ r. length r.aggregates) aggregate_count aggregates_long

  same_first_literal : (i : ℕ) → i < count b Rules → first_literal b i ≡ first_literal o i
  same_first_literal =
      same_starts (literal_runs b c) (literal_runs o d) (same_count Rules)
      (λ i l. omega (arith, same_head_count i l, same_positive_count i l, same_negative_count i l))

  same_first_aggregate : (i : ℕ) → i < count b Rules → first_aggregate b i ≡ first_aggregate o i
  same_first_aggregate = same_starts (aggregate_runs b c) (aggregate_runs o d) (same_count Rules) same_aggregate_count

  rule_alike : (i : ℕ) → i < count b Rules → Alike b o (rule_at b i) (rule_at o i) 8
  rule_alike i l =
      same_byte (same_head_count i l)
      then same_byte (same_positive_count i l)
      then same_byte (same_negative_count i l)
      then same_byte (same_aggregate_count i l)
      then alike_word bytes bytes' (same_first_literal i l)
      then alike_word bytes bytes' (same_first_aggregate i l)

  -- aggregate by aggregate
  same_aggregate : (j : ℕ) → j < count b Aggregates → aggregate_held b j ≡ aggregate_held o j
  unfolding aggregates_held
  same_aggregate = same_counted (aggregate_held b) (aggregate_held o) (count b Aggregates) (count o Aggregates) same_aggregates (same_count Aggregates)

  same_member_count : (j : ℕ) → j < count b Aggregates → member_count b j ≡ member_count o j
  same_member_count = same_number Aggregates aggregate_held same_aggregate (λ g. length g.members) member_count members_long

  same_code : (j : ℕ) → j < count b Aggregates → byte_at b (aggregate_at b j + 1) ≡ byte_at o (aggregate_at o j + 1)
  same_code =
      same_number Aggregates aggregate_held same_aggregate (λ g. code_of g.relation) (λ x j. byte_at x (aggregate_at x j + 1))
      (λ x clear j l. relation_code _ (aggregate_fits x j (clear.aggregate j l)).relation)

  same_first_member : (j : ℕ) → j < count b Aggregates → first_member b j ≡ first_member o j
  same_first_member = same_starts (member_runs b c) (member_runs o d) (same_count Aggregates) same_member_count

  aggregate_alike : (j : ℕ) → j < count b Aggregates → Alike b o (aggregate_at b j) (aggregate_at o j) 12
  aggregate_alike j l =
      let same = same_aggregate j l in
      let fits = aggregate_fits b j (c.aggregate j l) in
      let fits' = aggregate_fits o j (d.aggregate j (also Aggregates j l)) in
      same_byte (ap (λ g. g.kind) same)
      then same_byte (same_code j l)
      then same_byte (same_member_count j l)
      then both_zero fits.padded fits'.padded
      then alike_word bytes bytes' (same_first_member j l)
      then both_zero fits.padded_low fits'.padded_low
      then both_zero fits.padded_high fits'.padded_high
      then alike_number bytes bytes' (ap (λ g. g.bound) same)

  -- member by member
  same_member : (k : ℕ) → k < count b Members → member_held b k ≡ member_held o k
  unfolding members_held
  same_member = same_counted (member_held b) (member_held o) (count b Members) (count o Members) same_members (same_count Members)

  member_alike : (k : ℕ) → k < count b Members → Alike b o (member_place b k) (member_place o k) 8
  member_alike k l =
      let same = same_member k l in
      let zeros = member_padded b c k l in
      let zeros' = member_padded o d k (also Members k l) in
      same_byte (ap (λ m. m.statement) same)
      then both_zero zeros.0 zeros'.0
      then both_zero zeros.1 zeros'.1
      then both_zero zeros.2 zeros'.2
      then alike_number bytes bytes' (ap (λ m. m.weight) same)

  -- literals and names are as they stand
  literals_alike : Alike b o (offset b Literals) (offset o Literals) (count b Literals)
  unfolding literals_held
  literals_alike = alike_slices _ _ _ (rw (← same_count Literals) at same_literals)

  letters_alike : Alike b o (offset b Names) (offset o Names) (count b Names)
  letters_alike = alike_slices _ _ _ (rw (← same_count Names) at same_letters)

  area_alike : (a : Area) → Alike b o (offset b a) (offset o a) (size a * count b a)
  area_alike Statements = alike_records 4 _ _ _ statement_alike
  area_alike Rules = alike_records 8 _ _ _ rule_alike
  area_alike Literals = rw one-mul literals_alike
  area_alike Aggregates = alike_records 12 _ _ _ aggregate_alike
  area_alike Members = alike_records 8 _ _ _ member_alike
  area_alike Names = rw one-mul letters_alike

  -- from area to area, in both lists
  through_areas : (P : ℕ → ℕ → Type 0) → ((a : Area) → P (end_before b a) (end_before o a) → P (area_end b a) (area_end o a)) → P 28 28 → (a : Area) → P (end_before b a) (end_before o a)
  through_areas P past start a =
      let rules = past Statements start in
      let literals = past Rules rules in
      let aggregates = past Literals literals in
      let members = past Aggregates aggregates in
      elim a as (λ v. P (end_before b v) (end_before o v)) [
        | Statements ↦ start
        | Rules ↦ rules
        | Literals ↦ literals
        | Aggregates ↦ aggregates
        | Members ↦ members
        | Names ↦ past Members members
      ]

  same_start : (a : Area) → end_before b a ≡ end_before o a → offset b a ≡ offset o a
  same_start a e = area_joined b c a ∙ e ∙ sym (area_joined o d a)

  same_area_end : (a : Area) → end_before b a ≡ end_before o a → area_end b a ≡ area_end o a
  same_area_end a e = rw (same_start a e, same_count a)

  same_end_before : (a : Area) → end_before b a ≡ end_before o a
  same_end_before = through_areas (λ m n. m ≡ n) same_area_end refl

  same_offset : (a : Area) → offset b a ≡ offset o a
  same_offset a = same_start a (same_end_before a)

  same_length : length b ≡ length o
  same_length = sym (areas_end b c) ∙ same_area_end Names (same_end_before Names) ∙ areas_end o d

  -- the header, and the areas after it
  field_alike : (a : Area) → Alike b o (field_of a) (field_of a) 4
  field_alike a = alike_word bytes bytes' (same_count a) then alike_word bytes bytes' (same_offset a)

  header_alike : Alike b o 0 0 28
  header_alike =
      alike_word bytes bytes' (is_format b c ∙ sym (is_format o d))
      then alike_word bytes bytes' (is_length b c ∙ same_length ∙ sym (is_length o d))
      then field_alike Statements then field_alike Rules then field_alike Literals then field_alike Aggregates then field_alike Members then field_alike Names

  area_past : (a : Area) → Alike b o 0 0 (end_before b a) → Alike b o 0 0 (area_end b a)
  area_past a before =
      let here : offset b a ≡ 0 + offset b a = omega arith in
      (rw (← area_joined b c a) at before) then alike_moved here (sym (same_offset a) ∙ here) (area_alike a)

  same_bytes : b ≡ o
  same_bytes = alike_whole same_length (rw (← areas_end b c) (area_past Names (through_areas (λ m n. Alike b o 0 0 m) area_past header_alike Names)))

pub only_bytes : (b : List ℕ) → Bytes b → OnlyBytes b
only_bytes b bytes o bytes' ok ok' rules names =
    same_bytes o b bytes' bytes (clean o ok) (clean b ok') (rw (contents_held o ok, contents_held b ok') at rules) (rw (contents_held o ok, contents_held b ok') at names)
