-- Literals from the last to the first.
use Rattle.std.proofs.Common.{◌≡◌, ℕ, ◌-◌, ◌≤◌, Bool, List, ◌∷◌, ◌++◌, length, get_or, sym, ap, ◌∙◌}
use Rattle.judging.specs.Literals.{LiteralsAre, as_literals}
use Rattle.judging.specs.declared.literals.Literal.{Literal}
use Rattle.judging.specs.declared.literals.Literals.{Literals}
use Rattle.semantics.specs.declared.Mark.{Mark}
use Rattle.table.proofs.Tails.{tail, tail_more}

-- one literal more: the one before place k
pub with_literal : (m : List Mark) (all : List ℕ) (end k : ℕ) (x : Bool) (ls : List Literal) (s : Literals) → 1 ≤ k → k ≤ end → end ≤ length all → (q : ℕ) → q ≡ get_or all (k - 1) 0 → LiteralsAre m (record { statement = q; present = x } ∷ as_literals x (tail all end k) ++ ls) s → LiteralsAre m (as_literals x (tail all end (k - 1)) ++ ls) s
with_literal m all end k x ls s p l i q here h =
    let next : tail all end (k - 1) ≡ q ∷ tail all end k = tail_more all end k 0 p l i ∙ ap (λ a. a ∷ tail all end k) (sym here) in
    rw next h
