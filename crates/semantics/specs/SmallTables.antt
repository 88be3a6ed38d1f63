-- Eleven small programs with their accounts, worked out by hand: the definitions give what is expected.
use Rattle.std.specs.Prelude.{◌≡◌, ℕ, Bool, true, false, List, [], ◌∷◌, ℤ, pos, negsuc}
use Rattle.semantics.specs.declared.Finding.{Finding}
use Rattle.semantics.specs.declared.Mark.TheVariants.{In}
use Rattle.semantics.specs.declared.Member.{Member}
use Rattle.semantics.specs.declared.Relation.{Relation}
use Rattle.semantics.specs.declared.Relation.TheVariants.{AtMost, Equal, More}
use Rattle.semantics.specs.AnswerSets.{Account, Earliest, NoAccount}
use Rattle.semantics.specs.Families.{Values, house, bench}
use Rattle.semantics.specs.Markings.{noted, Drawn, Clash}
use Rattle.semantics.specs.Programs.{Aggregate, Rule, Program}
use Rattle.semantics.specs.Rows.{has}

-- the statements
abbrev pub a : ℕ
a = 0

abbrev pub b : ℕ
b = 1

abbrev pub c : ℕ
c = 2

-- house kinds
abbrev pub count : ℕ
count = 0

abbrev pub sum : ℕ
sum = 1

abbrev pub greatest_weight : ℕ
greatest_weight = 3

-- a bench kind
abbrev pub spread : ℕ
spread = 0

abbrev pub program : ℕ → List Rule → Program
program n rules = record { statements = n; rules = rules }

-- a rule without negative statements
abbrev pub rule : List ℕ → List ℕ → List Aggregate → Rule
rule head positive aggregates = record { head = head; positive = positive; negative = []; aggregates = aggregates }

abbrev pub fact : ℕ → Rule
fact q = rule (q ∷ []) [] []

abbrev pub over : ℕ → List Member → Relation → ℤ → Aggregate
over kind members relation bound = record { kind = kind; relation = relation; bound = bound; members = members }

infixr 70 ◌weighs◌
abbrev pub ◌weighs◌ : ℕ → ℤ → Member
q weighs w = record { statement = q; weight = w }

abbrev pub is_in : ℕ → Finding
is_in q = record { statement = q; present = true }

abbrev pub is_out : ℕ → Finding
is_out q = record { statement = q; present = false }

-- no rule at all
abbrev pub table_1 : Program
table_1 = program 0 []

-- a rule with nothing in it
abbrev pub table_2 : Program
table_2 = program 0 (rule [] [] [] ∷ [])

-- a ← count{a:1} = 1
abbrev pub table_3 : Program
table_3 = program 1 (rule (a ∷ []) [] (over count (a weighs pos 1 ∷ []) Equal (pos 1) ∷ []) ∷ [])

-- a ← count{a:1} = 0
abbrev pub table_4 : Program
table_4 = program 1 (rule (a ∷ []) [] (over count (a weighs pos 1 ∷ []) Equal (pos 0) ∷ []) ∷ [])

-- a.  b ← count{a:1, b:1} > 0
abbrev pub table_5 : Program
table_5 = program 2 (fact a ∷ rule (b ∷ []) [] (over count (a weighs pos 1 ∷ b weighs pos 1 ∷ []) More (pos 0) ∷ []) ∷ [])

-- a.  b ← count{a:1} > 0
abbrev pub table_6 : Program
table_6 = program 2 (fact a ∷ rule (b ∷ []) [] (over count (a weighs pos 1 ∷ []) More (pos 0) ∷ []) ∷ [])

-- a or b
abbrev pub table_7 : Program
table_7 = program 2 (rule (a ∷ b ∷ []) [] [] ∷ [])

-- a or b.  a ← b.  b ← a
abbrev pub table_8 : Program
table_8 = program 2 (rule (a ∷ b ∷ []) [] [] ∷ rule (a ∷ []) (b ∷ []) [] ∷ rule (b ∷ []) (a ∷ []) [] ∷ [])

-- a ← b.  b ← a
abbrev pub table_9 : Program
table_9 = program 2 (rule (a ∷ []) (b ∷ []) [] ∷ rule (b ∷ []) (a ∷ []) [] ∷ [])

-- a ← greatest{b:5} ≤ 3, and the same with sum
abbrev pub table_10 : ℕ → Program
table_10 kind = program 2 (rule (a ∷ []) [] (over kind (b weighs pos 5 ∷ []) AtMost (pos 3) ∷ []) ∷ [])

-- b.  c.  a ← sum{b:4, c:-4} = 0
abbrev pub table_11 : Program
table_11 = program 3 (fact b ∷ fact c ∷ rule (a ∷ []) [] (over sum (b weighs pos 4 ∷ c weighs negsuc 3 ∷ []) Equal (pos 0) ∷ []) ∷ [])

-- b.  c.  a ← spread{b:3, c:8} = 5, for the bench family
abbrev pub table_11_bench : Program
table_11_bench = program 3 (fact b ∷ fact c ∷ rule (a ∷ []) [] (over spread (b weighs pos 3 ∷ c weighs pos 8 ∷ []) Equal (pos 5) ∷ []) ∷ [])

-- the one account
pub record Sole (value : Values) (p : Program) (findings : List Finding) (s : List Bool) : Type 0 where
  pub account : Account value p findings s
  pub only : (t : List Bool) → Account value p findings t → t ≡ s

-- some account has the statement, and some has not
pub record InSome (value : Values) (p : Program) (findings : List Finding) (q : ℕ) : Type 0 where
  pub with_it : (s : List Bool) × Account value p findings s × (has s q ≡ true)
  pub without_it : (s : List Bool) × Account value p findings s × (has s q ≡ false)

abbrev pub InEvery : Values → Program → List Finding → ℕ → Type 0
InEvery value p findings q = (s : List Bool) → Account value p findings s → has s q ≡ true

pub record SmallTables : Type 0 where
  pub no_rules : Sole house table_1 [] []
  pub nothing : NoAccount house table_2 []
  pub nothing_clashes : Clash house table_2.rules (noted table_2 [])
  pub own_count : Sole house table_3 [] (false ∷ [])
  pub own_count_in : NoAccount house table_3 (is_in a ∷ [])
  pub own_count_settles : Drawn house table_3.rules (noted table_3 (is_in a ∷ [])) (In ∷ [])
  pub own_lack : NoAccount house table_4 []
  pub own_member : NoAccount house table_5 []
  pub other_member : Earliest house table_6 [] (true ∷ true ∷ [])
  pub other_member_every : InEvery house table_6 [] b
  pub either : Earliest house table_7 [] (true ∷ false ∷ [])
  pub either_out : Earliest house table_7 (is_out a ∷ []) (false ∷ true ∷ [])
  pub either_both : NoAccount house table_7 (is_in a ∷ is_in b ∷ [])
  pub either_some : InSome house table_7 [] a
  pub either_looped : Earliest house table_8 [] (true ∷ true ∷ [])
  pub looped : Earliest house table_9 [] (false ∷ false ∷ [])
  pub looped_in : NoAccount house table_9 (is_in a ∷ [])
  pub greatest_of_none : Earliest house (table_10 greatest_weight) [] (false ∷ false ∷ [])
  pub sum_of_none : Earliest house (table_10 sum) [] (true ∷ false ∷ [])
  pub sum_of_two : Earliest house table_11 [] (true ∷ true ∷ true ∷ [])
  pub spread_of_two : Earliest bench table_11_bench [] (true ∷ true ∷ true ∷ [])
