-- Rules as people write them: `a | b :- c, not d, sum{e:4, f:-4} >= 8.`
use Rattle.std.specs.Prelude.{ℕ, zero, suc, List, [], ◌∷◌, ◌++◌, map, codes, decimal, slice_index_or}
use Rattle.house.specs.Kinds.{word}
use Rattle.house.specs.declared.kind.HouseKind.TheVariants.{Count, Sum, Least, Greatest}
use Rattle.semantics.specs.Programs.{Aggregate, Rule}
use Rattle.semantics.specs.Words.{relation_text}
use Rattle.semantics.specs.declared.Member.{Member}
use Rattle.std.specs.Fmt.{signed_decimal}

-- the pieces, with the separator between each two
abbrev pub joined : List ℕ → List (List ℕ) → List ℕ
joined separator [] = []
joined separator (x ∷ []) = x
joined separator (x ∷ y ∷ ys) = x ++ (separator ++ joined separator (y ∷ ys))

-- the kinds of the house family have words
abbrev pub kind_text : ℕ → List ℕ
kind_text zero = word Count
kind_text (suc zero) = word Sum
kind_text (suc (suc zero)) = word Least
kind_text (suc (suc (suc zero))) = word Greatest
kind_text (suc (suc (suc (suc k)))) = codes "kind" ++ decimal (suc (suc (suc (suc k))))

-- the sign stands between a head and premises, before premises alone, and in a rule with nothing; a head alone has none
abbrev pub sign_text : {X Y : Type 0} → List X → List Y → List ℕ
sign_text [] ps = codes ":- "
sign_text (h ∷ hs) [] = []
sign_text (h ∷ hs) (p ∷ ps) = codes " :- "

module _ (names : List (List ℕ)) where
  abbrev pub name_text : ℕ → List ℕ
  name_text q = slice_index_or names q []

  abbrev pub not_text : ℕ → List ℕ
  not_text q = codes "not " ++ name_text q

  abbrev pub member_text : Member → List ℕ
  member_text m = name_text m.statement ++ (codes ":" ++ signed_decimal m.weight)

  abbrev pub aggregate_text : Aggregate → List ℕ
  aggregate_text g = kind_text g.kind ++ (codes "{" ++ (joined (codes ", ") (map member_text g.members) ++ (codes "} " ++ (relation_text g.relation ++ (codes " " ++ signed_decimal g.bound)))))

  -- the positive and the negative statements, then the aggregates
  abbrev pub premises : Rule → List (List ℕ)
  premises r = map name_text r.positive ++ (map not_text r.negative ++ map aggregate_text r.aggregates)

  -- the head, the sign and the premises
  abbrev pub rule_text : Rule → List ℕ
  rule_text r =
      joined (codes " | ") (map name_text r.head)
      ++ (sign_text (map name_text r.head) (premises r) ++ (joined (codes ", ") (premises r) ++ codes "."))
