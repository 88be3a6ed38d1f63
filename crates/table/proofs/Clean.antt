-- What is known of bytes that have no fault, record by record.
use Rattle.std.proofs.Common.{◌≡◌, ℕ, ◌<◌, ◌≤◌, Bool, true, false, eqb, leb, List, [], ◌∷◌, length, refl, arith}
use Rattle.format.proofs.Verdicts.{each_clean, parts}
use Rattle.format.specs.Aggregates.{aggregate_faults, all_aggregate_faults, member_count, member_faults, members_end}
use Rattle.layout.specs.Bytes.{word_at}
use Rattle.format.specs.Check.{accepted, faults, none}
use Rattle.format.specs.Faults.{each, unless, when}
use Rattle.format.specs.Header.{area_end, count_faults, end_before, every_area, header_faults, offset_faults}
use Rattle.layout.specs.Areas.{count, most, offset}
use Rattle.format.specs.Rules.{aggregates_end, all_literal_faults, all_rule_faults, literal_faults, literals_end, rule_faults}
use Rattle.format.specs.Statements.{all_statement_faults, name_byte_faults, names_end, same_name_faults, statement_faults}
use Rattle.layout.specs.declared.area.Area.{Area}
use Rattle.layout.specs.declared.area.Area.TheVariants.{Statements, Rules, Literals, Aggregates, Members, Names}
use Rattle.refusal.specs.declared.Fault.{Fault}
use Rattle.refusal.specs.declared.Refusal.{Refusal}
use Rattle.refusal.specs.declared.Refusal.TheVariants.{TooShort, WrongFormat, WrongLength, NamesNotLast, NamesUnfilled, RulesUnfilled}
use Rattle.std.proofs.lemmas.Bool.{eqb-true, leb-true}

none_empty : (fs : List Fault) → none fs ≡ true → fs ≡ []
none_empty [] e = refl
none_empty (f ∷ fs) e = cc

no_faults : (b : List ℕ) → accepted b ≡ true → faults b ≡ []
unfolding accepted
no_faults b e = none_empty (faults b) e

pub holds : (t : Bool) (r : Refusal) (p : ℕ) → unless t r p ≡ [] → t ≡ true
holds true r p e = refl
holds false r p e = cc

pub fails : (t : Bool) (r : Refusal) (p : ℕ) → when t r p ≡ [] → t ≡ false
fails false r p e = refl
fails true r p e = cc

-- the parts of the list of faults, each empty
pub record Clean (b : List ℕ) : Type 0 where
  pub header : header_faults b ≡ []
  pub statement : (i : ℕ) → i < count b Statements → statement_faults b i ≡ []
  pub names_filled : names_end b (count b Statements) ≡ count b Names
  pub letter : (k : ℕ) → k < count b Names → name_byte_faults b k ≡ []
  pub name_once : (i j : ℕ) → j < i → i < count b Statements → same_name_faults b i j ≡ []
  pub rule : (i : ℕ) → i < count b Rules → rule_faults b i ≡ []
  pub literals_filled : literals_end b (count b Rules) ≡ count b Literals
  pub aggregates_filled : aggregates_end b (count b Rules) ≡ count b Aggregates
  pub literal : (k : ℕ) → k < count b Literals → literal_faults b k ≡ []
  pub aggregate : (j : ℕ) → j < count b Aggregates → aggregate_faults b j ≡ []
  pub members_filled : members_end b (count b Aggregates) ≡ count b Members
  pub member : (j k : ℕ) → j < count b Aggregates → k < member_count b j → member_faults b j k ≡ []

pub clean : (b : List ℕ) → accepted b ≡ true → Clean b
clean b ok =
    let head = parts (header_faults b) _ (no_faults b ok) in
    let statements = parts (all_statement_faults b) _ head.1 in
    let each_statement = parts (each (count b Statements) (statement_faults b)) _ statements.0 in
    let names_filled = parts (unless (eqb (names_end b (count b Statements)) (count b Names)) NamesUnfilled 24) _ each_statement.1 in
    let letters = parts (each (count b Names) (name_byte_faults b)) _ names_filled.1 in
    let rules = parts (all_rule_faults b) _ statements.1 in
    let each_rule = parts (each (count b Rules) (rule_faults b)) _ rules.0 in
    let rules_filled = parts (unless (eqb (literals_end b (count b Rules)) (count b Literals)) RulesUnfilled 12) _ each_rule.1 in
    let literals = parts (all_literal_faults b) _ rules.1 in
    let aggregates = parts (all_aggregate_faults b) _ literals.1 in
    let each_aggregate = parts (each (count b Aggregates) (aggregate_faults b)) _ aggregates.0 in
    record {
      header = head.0;
      statement = each_clean _ _ each_statement.0;
      names_filled = eqb-true _ _ (holds _ _ _ names_filled.0);
      letter = each_clean _ _ letters.0;
      name_once = λ i j l m. each_clean _ _ (each_clean _ _ letters.1 i m) j l;
      rule = each_clean _ _ each_rule.0;
      literals_filled = eqb-true _ _ (holds _ _ _ rules_filled.0);
      aggregates_filled = eqb-true _ _ (holds _ _ _ rules_filled.1);
      literal = each_clean _ _ literals.0;
      aggregate = each_clean _ _ each_aggregate.0;
      members_filled = eqb-true _ _ (holds _ _ _ each_aggregate.1);
      member = λ j k l m. each_clean _ _ (each_clean _ _ aggregates.1 j l) k m;
    }

-- the six parts of a list of faults of the areas
every_part : (f : Area → List Fault) → every_area f ≡ [] → (a : Area) → f a ≡ []
every_part f e a =
    let past_statements = parts (f Statements) _ e in
    let past_rules = parts (f Rules) _ past_statements.1 in
    let past_literals = parts (f Literals) _ past_rules.1 in
    let past_aggregates = parts (f Aggregates) _ past_literals.1 in
    let past_members = parts (f Members) _ past_aggregates.1 in
    elim a as (λ v. f v ≡ []) [
      | Statements ↦ past_statements.0
      | Rules ↦ past_rules.0
      | Literals ↦ past_literals.0
      | Aggregates ↦ past_aggregates.0
      | Members ↦ past_members.0
      | Names ↦ past_members.1
    ]

module _ (b : List ℕ) (c : Clean b) where
  abbrev of_header : ((unless (leb 28 (length b)) TooShort (length b) ≡ []) × (unless (eqb (word_at b 0) 1) WrongFormat 0 ≡ []) × (unless (eqb (word_at b 2) (length b)) WrongLength 2 ≡ []) × (every_area (count_faults b) ≡ []) × (every_area (offset_faults b) ≡ []) × (unless (eqb (area_end b Names) (length b)) NamesNotLast 24 ≡ []))
  of_header =
      let long = parts (unless (leb 28 (length b)) TooShort (length b)) _ c.header in
      let format = parts (unless (eqb (word_at b 0) 1) WrongFormat 0) _ long.1 in
      let same = parts (unless (eqb (word_at b 2) (length b)) WrongLength 2) _ format.1 in
      let counts = parts (every_area (count_faults b)) _ same.1 in
      let offsets = parts (every_area (offset_faults b)) _ counts.1 in
      (long.0, format.0, same.0, counts.0, offsets.0, offsets.1)

  pub is_format : word_at b 0 ≡ 1
  is_format = eqb-true _ _ (holds _ _ _ of_header.1)

  pub is_length : word_at b 2 ≡ length b
  is_length = eqb-true _ _ (holds _ _ _ of_header.2)

  pub few : (a : Area) → count b a ≤ most a
  few a = leb-true _ _ (holds _ _ _ (every_part (count_faults b) of_header.3 a))

  pub area_joined : (a : Area) → offset b a ≡ end_before b a
  area_joined a = eqb-true _ _ (holds _ _ _ (every_part (offset_faults b) of_header.4 a))

  pub areas_end : area_end b Names ≡ length b
  areas_end = eqb-true _ _ (holds _ _ _ of_header.5)

-- bytes without faults are no longer than the header and all areas at their fullest
pub few_bytes : (b : List ℕ) → accepted b ≡ true → length b < 49693
few_bytes b ok =
    let c = clean b ok in
    omega (
      arith,
      areas_end b c,
      area_joined b c Statements,
      area_joined b c Rules,
      area_joined b c Literals,
      area_joined b c Aggregates,
      area_joined b c Members,
      area_joined b c Names,
      few b c Statements,
      few b c Rules,
      few b c Literals,
      few b c Aggregates,
      few b c Members,
      few b c Names,
    )
