-- Marks with the text that they should have.
use Rattle.std.specs.Prelude.{◌≡◌, [], ◌∷◌, ◌++◌, Some, None, codes}
use Rattle.notation.specs.Accounts.{account_text}
use Rattle.notation.specs.Marks.{marks_text}
use Rattle.notation.specs.Shown.{newline}
use Rattle.semantics.specs.declared.Mark.TheVariants.{In, Open, Out}

pub record MarkExamples : Type 0 where
  pub account : account_text (codes "a" ∷ codes "b" ∷ codes "c" ∷ []) (Some (In ∷ Out ∷ In ∷ [])) ≡ codes "account 2\nin a\nin c\n"
  pub empty_account : account_text (codes "a" ∷ []) (Some (Out ∷ [])) ≡ codes "account 0\n"
  pub no_account : account_text (codes "a" ∷ []) None ≡ codes "none\n"
  pub each_mark : marks_text (codes "a" ∷ codes "b" ∷ codes "c" ∷ []) (In ∷ Out ∷ Open ∷ []) ≡ codes "in a" ++ (newline ++ (codes "out b" ++ (newline ++ (codes "open c" ++ newline))))
