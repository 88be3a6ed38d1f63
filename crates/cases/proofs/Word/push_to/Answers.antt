use Rattle.std.proofs.Common.{arith, ◌≡◌, ℕ, zero, suc, ◌+◌, List, ◌++◌}
use Rattle.std.proofs.lemmas.Grind.{common_steps}
use Rattle.std.specs.List.{repeat}
use Rattle.cases.proofs.Word.push_to.Goals as goal

-- once more at the end is once more at the front
repeat_more : (n : ℕ) (xs : List ℕ) → repeat (n + 1) xs ≡ repeat n xs ++ xs
repeat_more zero xs = grind (arith, common_steps)
repeat_more (suc n) xs = grind (arith, common_steps, repeat_more n xs)

pub loop-preserved : goal.loop-preserved
loop-preserved c = grind (arith, common_steps, repeat_more)
