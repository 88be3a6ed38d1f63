-- What people read for a mark and for a relation.
use Rattle.std.specs.Prelude.{ℕ, List, codes}
use Rattle.semantics.specs.declared.Mark.{Mark}
use Rattle.semantics.specs.declared.Mark.TheVariants.{Open, In, Out}
use Rattle.semantics.specs.declared.Relation.{Relation}
use Rattle.semantics.specs.declared.Relation.TheVariants.{Less, AtMost, Equal, Unequal, AtLeast, More}

abbrev pub mark_text : Mark → List ℕ
mark_text Open = codes "open"
mark_text In = codes "in"
mark_text Out = codes "out"

abbrev pub relation_text : Relation → List ℕ
relation_text Less = codes "<"
relation_text AtMost = codes "<="
relation_text Equal = codes "="
relation_text Unequal = codes "!="
relation_text AtLeast = codes ">="
relation_text More = codes ">"
