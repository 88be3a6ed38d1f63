-- The text of a whole table.
use Rattle.std.proofs.Common.{◌≡◌, ℕ, ◌+◌, ◌<◌, ◌≤◌, List, [], ◌∷◌, ◌++◌, length, get_or, take, Ok, Err, sym, refl, ap, ◌∙◌, append_assoc, arith}
use Rattle.format.specs.Check.{counts_of, faults}
use Rattle.format.specs.Faults.{verdict}
use Rattle.format.specs.declared.check.Counts.{Counts}
use Rattle.refusal.specs.Refusals.{refused_text}
use Rattle.refusal.specs.declared.Fault.{Fault}
use Rattle.notation.specs.Shown.{by_faults, fault_text, newline, rules_text, shown, table_text}
use Rattle.notation.specs.Text.{rule_text}
use Rattle.semantics.specs.Programs.{Rule}
use Rattle.std.proofs.lemmas.List.{take_all, take_more}
use Rattle.table.specs.View.{no_rule}

-- The rules, one after another.
rules_text_next : (names : List (List ℕ)) (rs : List Rule) (r : Rule) → rules_text names (rs ++ r ∷ []) ≡ rules_text names rs ++ (rule_text names r ++ newline)
rules_text_next names [] r = refl
rules_text_next names (x ∷ xs) r =
    ap (λ t. rule_text names x ++ (newline ++ t)) (rules_text_next names xs r) ∙ simp append_assoc

pub rules_text_more : (names : List (List ℕ)) (rs : List Rule) (i : ℕ) → i < length rs → rules_text names (take i rs) ++ (rule_text names (get_or rs i no_rule) ++ newline) ≡ rules_text names (take (i + 1) rs)
rules_text_more names rs i l = rw (take_more rs i no_rule l) (sym (rules_text_next names (take i rs) (get_or rs i no_rule)))

pub rules_text_all : (names : List (List ℕ)) (rs : List Rule) (i : ℕ) → length rs ≤ i → rules_text names (take i rs) ≡ rules_text names rs
rules_text_all names rs i h = ap (rules_text names) (take_all i rs h)

-- A fault, in a line.
pub fault_line : (f : Fault) → refused_text f ++ newline ≡ fault_text f
fault_line f = simp append_assoc

-- The check's answer says which of the two texts is shown.
by_no_fault : (fs : List Fault) (b : List ℕ) (n : Counts) → Ok n ≡ verdict fs (counts_of b) → table_text b n ≡ by_faults fs b
by_no_fault [] b n e = let same : n ≡ counts_of b = cc in ap (table_text b) same
by_no_fault (f ∷ fs) b n e = let z : ◌≡◌ {A = ℕ} 0 1 = cc in absurd (omega arith)

by_fault : (fs : List Fault) (b : List ℕ) (f : Fault) → Err f ≡ verdict fs (counts_of b) → fault_text f ≡ by_faults fs b
by_fault [] b f e = let z : ◌≡◌ {A = ℕ} 0 1 = cc in absurd (omega arith)
by_fault (x ∷ xs) b f e = let same : f ≡ x = cc in ap fault_text same

pub table_shown : (b : List ℕ) (n : Counts) → Ok n ≡ verdict (faults b) (counts_of b) → table_text b n ≡ shown b
unfolding shown
table_shown b n e = by_no_fault (faults b) b n e

pub fault_shown : (b : List ℕ) (f : Fault) → Err f ≡ verdict (faults b) (counts_of b) → fault_text f ≡ shown b
unfolding shown
fault_shown b f e = by_fault (faults b) b f e
