-- The examples, by computing.
use Rattle.daybook.specs.Examples.{Examples}
use Rattle.daybook.specs.Telling.{mark_of}
use Rattle.semantics.specs.declared.Mark.{Mark}
use Rattle.semantics.specs.declared.Mark.TheVariants.{Open, In, Out}
use Rattle.sheet.specs.Outcomes.{byte_of}
use Rattle.std.proofs.Common.{◌≡◌}
use Rattle.std.proofs.Common.{refl}
use Rattle.std.specs.Fmt.{digits}

marks_back : (m : Mark) → mark_of (byte_of m) ≡ m
marks_back Open = refl
marks_back In = refl
marks_back Out = refl

pub worked : Examples
unfolding digits
worked = record {
  enter = refl;
  suppose = refl;
  blanks = refl;
  why = refl;
  remark = refl;
  empty = refl;
  unknown = refl;
  too_many = refl;
  other_state = refl;
  numbers = refl;
  visits = refl;
  mistake = refl;
  asked = refl;
  settled = refl;
  account = refl;
  weighed = refl;
  refused = refl;
  rule = refl;
  members_in = refl;
  no_rule = refl;
  not_in = refl;
  sought_in_vain = refl;
  supposed_in_vain = refl;
  found_again = refl;
  no_account = refl;
  standing = refl;
  marks = marks_back;
}
