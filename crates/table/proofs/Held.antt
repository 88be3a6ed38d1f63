-- What bytes without faults hold: how much of each kind, how long each part is, and that the parts put together are the whole.
use Rattle.std.proofs.Common.{◌≡◌, ℕ, ◌+◌, ◌<◌, ◌≤◌, true, List, ◌++◌, length, sym, refl, ◌∙◌, arith}
use Rattle.format.specs.Aggregates.{first_member, member_count}
use Rattle.format.specs.Check.{accepted}
use Rattle.layout.specs.Areas.{count, offset}
use Rattle.format.specs.Rules.{aggregate_count, first_aggregate, first_literal, head_count, negative_count, positive_count}
use Rattle.format.specs.Statements.{name_at, name_length, name_start}
use Rattle.layout.specs.declared.area.Area.TheVariants.{Statements, Rules, Literals, Aggregates, Members, Names}
use Rattle.semantics.specs.Programs.{Rule}
use Rattle.std.proofs.lemmas.List.FromFn.{length-map-range_with_len}
use Rattle.std.proofs.lemmas.Bool.{cond-true}
use Rattle.std.specs.List.{flat_map}
use Rattle.table.proofs.Clean.{Clean, area_joined, areas_end}
use Rattle.table.proofs.Records.{aggregate_runs, aggregates_inside, literal_runs, literals_inside, member_runs, members_inside, name_inside, name_runs}
use Rattle.table.proofs.Runs.{runs_fill}
use Rattle.table.proofs.Slices.{length_slice, slice_of_slice, three_slices_joined}
use Rattle.table.specs.Contents.{aggregate_held, aggregates_held, contents, held, literals_held, member_held, members_held, names_held, nothing, rule_held, rules_held, slice}

pub contents_held : (b : List ℕ) → accepted b ≡ true → contents b ≡ held b
unfolding contents
contents_held b ok = cond-true (accepted b) (held b) nothing ok

-- how many there are
pub names_count : (b : List ℕ) → length (names_held b) ≡ count b Statements
unfolding names_held
names_count b = length-map-range_with_len (name_at b) 0 (count b Statements)

pub rules_count : (b : List ℕ) → length (rules_held b) ≡ count b Rules
unfolding rules_held
rules_count b = length-map-range_with_len (rule_held b) 0 (count b Rules)

pub aggregates_count : (b : List ℕ) → length (aggregates_held b) ≡ count b Aggregates
unfolding aggregates_held
aggregates_count b = length-map-range_with_len (aggregate_held b) 0 (count b Aggregates)

pub members_count : (b : List ℕ) → length (members_held b) ≡ count b Members
unfolding members_held
members_count b = length-map-range_with_len (member_held b) 0 (count b Members)

-- the bytes of all names
abbrev pub letters_held : List ℕ → List ℕ
letters_held b = slice (offset b Names) (count b Names) b

-- all literals of a rule
abbrev pub literals_of : Rule → List ℕ
literals_of r = r.head ++ r.positive ++ r.negative

module _ (b : List ℕ) (c : Clean b) where
  pub literals_count : length (literals_held b) ≡ count b Literals
  unfolding literals_held
  literals_count =
      length_slice (offset b Literals) (count b Literals) b
      (omega (arith, areas_end b c, area_joined b c Names, area_joined b c Members, area_joined b c Aggregates))

  pub letters_count : length (letters_held b) ≡ count b Names
  letters_count = length_slice (offset b Names) (count b Names) b (omega (arith, areas_end b c))

  -- how long the parts are
  pub name_long : (i : ℕ) → i < count b Statements → length (name_at b i) ≡ name_length b i
  name_long i l = length_slice (offset b Names + name_start b i) (name_length b i) b (omega (arith, areas_end b c, name_inside b c i l))

  literals_long : (first n : ℕ) → first + n ≤ count b Literals → length (slice first n (literals_held b)) ≡ n
  literals_long first n inside = length_slice first n (literals_held b) (omega (arith, literals_count))

  pub head_long : (i : ℕ) → i < count b Rules → length (rule_held b i).head ≡ head_count b i
  head_long i l = literals_long _ (head_count b i) (omega (arith, literals_inside b c i l))

  pub positive_long : (i : ℕ) → i < count b Rules → length (rule_held b i).positive ≡ positive_count b i
  positive_long i l = literals_long _ (positive_count b i) (omega (arith, literals_inside b c i l))

  pub negative_long : (i : ℕ) → i < count b Rules → length (rule_held b i).negative ≡ negative_count b i
  negative_long i l = literals_long _ (negative_count b i) (omega (arith, literals_inside b c i l))

  pub aggregates_long : (i : ℕ) → i < count b Rules → length (rule_held b i).aggregates ≡ aggregate_count b i
  aggregates_long i l = length_slice (first_aggregate b i) (aggregate_count b i) (aggregates_held b) (omega (arith, aggregates_count b, aggregates_inside b c i l))

  pub members_long : (j : ℕ) → j < count b Aggregates → length (aggregate_held b j).members ≡ member_count b j
  members_long j l = length_slice (first_member b j) (member_count b j) (members_held b) (omega (arith, members_count b, members_inside b c j l))

  -- the parts put together are the whole
  pub literals_whole : flat_map literals_of (rules_held b) ≡ literals_held b
  unfolding rules_held
  literals_whole =
      runs_fill literals_of (rule_held b) (literals_held b) (count b Rules) (literal_runs b c)
      (λ i l. three_slices_joined (first_literal b i) (head_count b i) (positive_count b i) (negative_count b i) (literals_held b))
      (c.literals_filled ∙ sym literals_count)

  pub aggregates_whole : flat_map (λ r. r.aggregates) (rules_held b) ≡ aggregates_held b
  unfolding rules_held
  aggregates_whole =
      runs_fill (λ r. r.aggregates) (rule_held b) (aggregates_held b) (count b Rules) (aggregate_runs b c)
      (λ i l. refl)
      (c.aggregates_filled ∙ sym (aggregates_count b))

  pub members_whole : flat_map (λ g. g.members) (aggregates_held b) ≡ members_held b
  unfolding aggregates_held
  members_whole =
      runs_fill (λ g. g.members) (aggregate_held b) (members_held b) (count b Aggregates) (member_runs b c)
      (λ j l. refl)
      (c.members_filled ∙ sym (members_count b))

  pub letters_whole : flat_map (λ name. name) (names_held b) ≡ letters_held b
  unfolding names_held
  letters_whole =
      runs_fill (λ name. name) (name_at b) (letters_held b) (count b Statements) (name_runs b c)
      (λ i l. sym (slice_of_slice (name_start b i) (name_length b i) (offset b Names) (count b Names) b (name_inside b c i l)))
      (c.names_filled ∙ sym letters_count)
