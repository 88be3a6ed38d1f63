-- What blocks a rule, told of the sets of its statements.
use Rattle.marking.specs.Sets.{contains}
use Rattle.marking.specs.declared.set.Set.{Set}
use Rattle.semantics.specs.Lists.{Among}
use Rattle.semantics.specs.Markings.{at}
use Rattle.semantics.specs.Programs.{Rule}
use Rattle.semantics.specs.declared.Mark.{Mark}
use Rattle.semantics.specs.declared.Mark.TheVariants.{In, Out}
use Rattle.std.specs.Prelude.{◌≡◌, ◌⊎◌, ℕ, Bool, List, false, true}

-- some statement of the set is in
abbrev pub SomeIn : List Mark → Set → Type 0
SomeIn m s = (q : ℕ) × (contains s q ≡ true) × (at m q ≡ In)

-- some statement of the set is in and of u
abbrev pub SomeInOf : List Mark → Set → Set → Type 0
SomeInOf m u s = (q : ℕ) × (contains s q ≡ true) × (contains u q ≡ true) × (at m q ≡ In)

-- some statement of the set is in and not of u
abbrev pub SomeInBut : List Mark → Set → Set → Type 0
SomeInBut m u s = (q : ℕ) × (contains s q ≡ true) × (contains u q ≡ false) × (at m q ≡ In)

-- some statement of the set is out, or of u
abbrev pub SomeLost : List Mark → Set → Set → Type 0
SomeLost m u s = (q : ℕ) × (contains s q ≡ true) × ((at m q ≡ Out) ⊎ (contains u q ≡ true))

-- some head statement of the rule is of U
abbrev pub SomeHead : (ℕ → Bool) → Rule → Type 0
SomeHead U r = (q : ℕ) × Among q r.head × (U q ≡ true)
