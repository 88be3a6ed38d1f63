-- A proper part of a row that obeys against it, by what is removed from the row.
use Rattle.std.specs.Prelude.{◌≡◌, ◌==◌, ◌&&◌, ◌||◌, ℕ, ◌<◌, Bool, true, not, List, map, length, slice_index_or, Some, None, Option}
use Rattle.marking.specs.Marks.{is_out}
use Rattle.marking.specs.declared.marking.Marking.{Marking}
use Rattle.rulesets.specs.Rulesets.{has_member}
use Rattle.semantics.specs.AnswerSets.{needs_met}
use Rattle.semantics.specs.FullMarkings.{is_in}
use Rattle.semantics.specs.Markings.{at}
use Rattle.semantics.specs.Programs.{Rule}
use Rattle.semantics.specs.Rows.{has, ProperPart}
use Rattle.semantics.specs.declared.Mark.{Mark}
use Rattle.semantics.specs.declared.Mark.TheVariants.{Open, In, Out}
use Rattle.solver.specs.Reducts.{keeps}
use Rattle.std.specs.List.{list_any}
use Rattle.table.specs.View.{no_rule}

-- what is left where these statements are removed
abbrev pub rest : List Bool → List Bool
rest removed = map not removed

-- t has a head statement of the rule, if it has what the rule needs
abbrev pub Meets : List Bool → List Bool → Rule → Type 0
Meets s t r = needs_met s t r ≡ true → list_any (has t) r.head ≡ true

-- t meets each rule that is kept
abbrev pub MeetsAll : List Rule → List Bool → List Bool → List Bool → Type 0
MeetsAll rules kept s t = (i : ℕ) → i < length rules → keeps kept i ≡ true → Meets s t (slice_index_or rules i no_rule)

-- rule i is kept, and t does not meet it
abbrev pub Fails : List Rule → List Bool → List Bool → List Bool → ℕ → Type 0
Fails rules kept s t i = (keeps kept i ≡ true) × (Meets s t (slice_index_or rules i no_rule) → ⊥)

-- what is left is a proper part of s, and meets each rule that is kept
pub record Smaller (rules : List Rule) (kept s removed : List Bool) : Type 0 where
  pub part : ProperPart (rest removed) s
  pub meets : MeetsAll rules kept s (rest removed)

-- there is such a part
abbrev pub SomeSmaller : List Rule → List Bool → List Bool → Type 0
SomeSmaller rules kept s = (removed : List Bool) × Smaller rules kept s removed

-- whether it is a head statement of the rule
abbrev pub heads : Rule → ℕ → Bool
heads r q = list_any (λ p. p == q) r.head

-- whether the rule needs it: a positive statement, or that of a member, if it is in s
abbrev pub needs : List Bool → Rule → ℕ → Bool
needs s r q = list_any (λ p. p == q) r.positive || (list_any (λ g. has_member q g.members) r.aggregates && has s q)

-- these marks remove the head statements of the rule, leave what it needs, and say no more
pub record FailingMarks (s : List Bool) (r : Rule) (n : List Mark) : Type 0 where
  pub long : length n ≡ length s
  pub removed : (q : ℕ) → q < length s → is_in (at n q) ≡ heads r q
  pub left : (q : ℕ) → q < length s → is_out (at n q) ≡ needs s r q

-- the marks under which what is left of s fails the rule; or there are none, since the rule needs one of its head statements
abbrev pub FailsUnder : List Bool → Rule → Option Marking → Type 0
FailsUnder s r (Some n) = FailingMarks s r n
FailsUnder s r None = (q : ℕ) × (heads r q ≡ true) × (needs s r q ≡ true)

-- some statement of s is removed
abbrev pub RemovesSome : List Bool → List Bool → Type 0
RemovesSome s removed = (q : ℕ) × (has s q ≡ true) × (has removed q ≡ true)

-- where the search starts: all that is in the row may be removed, and the rest is
abbrev pub removable : Mark → Mark
removable Open = In
removable In = Open
removable Out = In
