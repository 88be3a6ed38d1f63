-- The number, the layer and the condition of each refusal, and how a fault is written.
use Rattle.std.specs.Prelude.{ℕ, List, ◌++◌, codes, decimal}
use Rattle.refusal.specs.declared.Fault.{Fault}
use Rattle.refusal.specs.declared.Layer.{Layer}
use Rattle.refusal.specs.declared.Layer.TheVariants.{Header, Statements, Rules, Literals, Aggregates, Members, Family, Sheet}
use Rattle.refusal.specs.declared.Refusal.{Refusal}
use Rattle.refusal.specs.declared.Refusal.TheVariants.{TooShort, WrongFormat, WrongLength, CountTooLarge, WrongOffset, NamesNotLast, WrongNameRun, StatementPadding, NamesUnfilled, NameByte, NameTwice, RuleCountTooLarge, WrongRuleRun, RulesUnfilled, UnknownLiteral, UnknownRelation, WrongMemberRun, AggregatePadding, MembersUnfilled, UnknownMember, MemberPadding, WeightTooLarge, MemberTwice, TableUnopened, StatementsDiffer, LackingKind, UnknownStatement, FindingStands, SheetFull, NoFinding, PartTooShort, ReportTooShort}

-- what the outside sees of a refusal
abbrev pub seen : Refusal → ℕ × Layer
seen TooShort = (1, Header)
seen WrongFormat = (2, Header)
seen WrongLength = (3, Header)
seen CountTooLarge = (4, Header)
seen WrongOffset = (5, Header)
seen NamesNotLast = (6, Header)
seen WrongNameRun = (7, Statements)
seen StatementPadding = (8, Statements)
seen NamesUnfilled = (9, Statements)
seen NameByte = (10, Statements)
seen NameTwice = (11, Statements)
seen RuleCountTooLarge = (12, Rules)
seen WrongRuleRun = (13, Rules)
seen RulesUnfilled = (14, Rules)
seen UnknownLiteral = (15, Literals)
seen UnknownRelation = (16, Aggregates)
seen WrongMemberRun = (17, Aggregates)
seen AggregatePadding = (18, Aggregates)
seen MembersUnfilled = (19, Aggregates)
seen UnknownMember = (20, Members)
seen MemberPadding = (21, Members)
seen WeightTooLarge = (22, Members)
seen MemberTwice = (23, Members)
seen TableUnopened = (24, Sheet)
seen StatementsDiffer = (25, Sheet)
seen LackingKind = (26, Family)
seen UnknownStatement = (27, Sheet)
seen FindingStands = (28, Sheet)
seen SheetFull = (29, Sheet)
seen NoFinding = (30, Sheet)
seen PartTooShort = (31, Sheet)
seen ReportTooShort = (32, Sheet)

abbrev pub number_of : Refusal → ℕ
number_of r = (seen r).0

abbrev pub layer_of : Refusal → Layer
layer_of r = (seen r).1

-- the condition, in words
abbrev pub reason_text : Refusal → List ℕ
reason_text TooShort = codes "a table has at least 28 bytes"
reason_text WrongFormat = codes "the format is not 1"
reason_text WrongLength = codes "the length in the header is not the number of bytes"
reason_text CountTooLarge = codes "a count passes the most of its area"
reason_text WrongOffset = codes "an offset is not where the part before ends"
reason_text NamesNotLast = codes "the names do not end with the table"
reason_text WrongNameRun = codes "the length or the start of a name is wrong"
reason_text StatementPadding = codes "the last byte of a statement is not zero"
reason_text NamesUnfilled = codes "the names do not fill their area"
reason_text NameByte = codes "a name has a byte outside 33 to 126"
reason_text NameTwice = codes "a name is that of an earlier statement"
reason_text RuleCountTooLarge = codes "a count of a rule is too large"
reason_text WrongRuleRun = codes "the literals or the aggregates of a rule start in the wrong place"
reason_text RulesUnfilled = codes "the rules do not fill the literals or the aggregates"
reason_text UnknownLiteral = codes "a rule names a statement that is not there"
reason_text UnknownRelation = codes "there is no such relation"
reason_text WrongMemberRun = codes "the count or the start of the members of a set is wrong"
reason_text AggregatePadding = codes "a byte of an aggregate that must be zero is not"
reason_text MembersUnfilled = codes "the aggregates do not fill the members"
reason_text UnknownMember = codes "a set names a statement that is not there"
reason_text MemberPadding = codes "a byte of a member that must be zero is not"
reason_text WeightTooLarge = codes "a weight is beyond 1000000 either side of zero"
reason_text MemberTwice = codes "a statement is in a set twice"
reason_text TableUnopened = codes "the table is not opened"
reason_text StatementsDiffer = codes "the table and the sheet differ in their number of statements"
reason_text LackingKind = codes "the family lacks this kind"
reason_text UnknownStatement = codes "there is no such statement"
reason_text FindingStands = codes "it has a standing finding"
reason_text SheetFull = codes "64 findings stand"
reason_text NoFinding = codes "no finding stands"
reason_text PartTooShort = codes "the part is shorter than one byte a statement"
reason_text ReportTooShort = codes "the part is shorter than 4620 bytes"

-- a fault as people read it, without the end of the line
abbrev pub refused_text : Fault → List ℕ
refused_text f = codes "refused " ++ (decimal (number_of f.refusal) ++ (codes " at " ++ decimal f.place))
