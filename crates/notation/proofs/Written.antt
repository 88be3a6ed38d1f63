-- Texts that are written one after another.
use Rattle.std.proofs.Common.{◌≡◌, ℕ, List, ◌++◌, Ok, Some, Option, refl, subst}
use Rattle.std.proofs.Output.{has_written_append}
use Rattle.std.specs.Fmt.{DisplaysOnOk, HasWritten, WritesOnOk}
use Rattle.std.specs.declared.fmt.Formatter.{Formatter}

module _ {W : Type 0} {took : W → List ℕ → W → Type 0} {f g g' h : Formatter W} {a b : List ℕ} where
  -- a text after what there is
  pub then_text : g' ≡ g → HasWritten took f a g → WritesOnOk took g' (Ok (tt {0})) b h → HasWritten took f (a ++ b) h
  then_text e so_far writes =
      let next = subst (λ x. WritesOnOk took x (Ok (tt {0})) b h) e writes in
      has_written_append took f a g b h so_far (next so_far.plain refl)

  -- and what is printed of a value
  pub then_shown : {o : Option (List ℕ)} → o ≡ Some b → g' ≡ g → HasWritten took f a g → DisplaysOnOk took g' (Ok (tt {0})) o h → HasWritten took f (a ++ b) h
  then_shown same e so_far displays = then_text e so_far (subst (λ x. DisplaysOnOk took g' (Ok (tt {0})) x h) same displays)
