-- A report in a part of bytes that its caller hands over.
use Rattle.std.specs.Prelude.{◌≡◌, ℕ, ◌<◌, ◌≤◌, List, ◌++◌, drop, length, MatchResult, Result}
use Rattle.refusal.specs.declared.Fault.{Fault}
use Rattle.refusal.specs.declared.Refusal.TheVariants.{ReportTooShort}

-- the bytes with a text at their front, in place of as many of them
abbrev pub over : List ℕ → List ℕ → List ℕ
over text bytes = text ++ drop (length text) bytes

-- a part has the text at its front and behind it what it had, and the length of the text is given
pub record Written (text old new : List ℕ) (n : ℕ) : Type 0 where
  pub end : n ≡ length text
  pub bytes : new ≡ over text old

-- a part is refused as too short, and has what it had; the place is 0
pub record Refused (old new : List ℕ) (f : Fault) : Type 0 where
  pub fault : f ≡ record { refusal = ReportTooShort; place = 0 }
  pub bytes : new ≡ old

-- a report is written to a part of 4,620 bytes or more; a shorter one is refused
abbrev pub Reports : List ℕ → List ℕ → List ℕ → Result ℕ Fault → Type 0
Reports text old new result =
    MatchResult result (λ n. (4620 ≤ length old) × Written text old new n) (λ f. (length old < 4620) × Refused old new f)
