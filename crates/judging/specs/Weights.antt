-- The weights of a set's members, by the marks of their statements.
use Rattle.semantics.specs.Markings.{at}
use Rattle.semantics.specs.declared.Mark.{Mark}
use Rattle.semantics.specs.declared.Mark.TheVariants.{Open, In, Out}
use Rattle.semantics.specs.declared.Member.{Member}
use Rattle.std.specs.Prelude.{List, [], ◌∷◌, ℤ}

abbrev pub if_in : Mark → ℤ → List ℤ → List ℤ
if_in Open w ws = ws
if_in In w ws = w ∷ ws
if_in Out w ws = ws

abbrev pub if_open : Mark → ℤ → List ℤ → List ℤ
if_open Open w ws = w ∷ ws
if_open In w ws = ws
if_open Out w ws = ws

-- the weights of the members that are in
abbrev pub sure_weights : List Mark → List Member → List ℤ
sure_weights m [] = []
sure_weights m (a ∷ ms) = if_in (at m a.statement) a.weight (sure_weights m ms)

-- the weights of the members that are open
abbrev pub open_weights : List Mark → List Member → List ℤ
open_weights m [] = []
open_weights m (a ∷ ms) = if_open (at m a.statement) a.weight (open_weights m ms)
