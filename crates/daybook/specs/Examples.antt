-- Lines of a journal with what they ask for, and lines of a day with their text.
use Rattle.std.specs.Prelude.{◌≡◌, ℕ, true, false, List, [], ◌∷◌, codes, Some, None, Ok, Err, pos, negsuc}
use Rattle.daybook.specs.Days.{latest, line, line_text, lines_noted, visits_asked}
use Rattle.daybook.specs.Reasons.{stands_text, support_text}
use Rattle.daybook.specs.declared.days.Content.TheVariants.{Visit as AVisit, Why as AWhy, Mistake as AMistake}
use Rattle.daybook.specs.declared.reading.Request.TheVariants.{Visit as Visiting, Why}
use Rattle.semantics.specs.Families.{house}
use Rattle.semantics.specs.Programs.{Rule}
use Rattle.semantics.specs.declared.Relation.TheVariants.{AtLeast, AtMost, Equal}
use Rattle.solver.specs.declared.support.Support.TheVariants.{ByRule, ByNone, NotIn}
use Rattle.daybook.specs.Standing.{standing_text}
use Rattle.daybook.specs.Telling.{answer_text, asked_text, came_text, mark_of}
use Rattle.daybook.specs.Requests.{request_read}
use Rattle.daybook.specs.declared.reading.Mistake.TheVariants.{NoRequest, UnknownName}
use Rattle.refusal.specs.declared.Refusal.TheVariants.{FindingStands}
use Rattle.semantics.specs.declared.Mark.{Mark}
use Rattle.sheet.specs.Outcomes.{byte_of}
use Rattle.sheet.specs.declared.visits.Answer.TheVariants.{Drawn, Sought, Weighed}
use Rattle.sheet.specs.declared.visits.Drawing.TheVariants.{Settled}
use Rattle.sheet.specs.declared.visits.Visit.TheVariants.{Enter, Withdraw, Draw, Seek, Weigh, Suppose}
use Rattle.solver.specs.declared.weighing.Weighing.TheVariants.{InEvery}

abbrev pub two_names : List (List ℕ)
two_names = codes "hood" ∷ codes "wheel" ∷ []

-- hood.  wheel :- hood, sum{hood:4, wheel:-1} >= 2, count{} = 0.  hood :- max{wheel:3, hood:1} <= 1.
abbrev pub three_rules : List Rule
three_rules =
    record { head = 0 ∷ []; positive = []; negative = []; aggregates = [] }
    ∷ record {
      head = 1 ∷ [];
      positive = 0 ∷ [];
      negative = [];
      aggregates =
          record { kind = 1; relation = AtLeast; bound = pos 2; members = record { statement = 0; weight = pos 4 } ∷ record { statement = 1; weight = negsuc 0 } ∷ [] }
          ∷ record { kind = 0; relation = Equal; bound = pos 0; members = [] } ∷ [];
    }
    ∷ record {
      head = 0 ∷ [];
      positive = [];
      negative = [];
      aggregates = record { kind = 3; relation = AtMost; bound = pos 1; members = record { statement = 1; weight = pos 3 } ∷ record { statement = 0; weight = pos 1 } ∷ [] } ∷ [];
    }
    ∷ []

pub record Examples : Type 0 where
  pub enter : request_read two_names (codes "enter wheel in") ≡ Ok (Some (Visiting (Enter (record { statement = 1; present = true }))))
  pub suppose : request_read two_names (codes "suppose hood out") ≡ Ok (Some (Visiting (Suppose (record { statement = 0; present = false }))))
  pub blanks : request_read two_names (codes "  weigh   wheel ") ≡ Ok (Some (Visiting (Weigh 1)))
  pub why : request_read two_names (codes "why hood") ≡ Ok (Some (Why 0))
  pub remark : request_read two_names (codes "# draw") ≡ Ok None
  pub empty : request_read two_names (codes "  ") ≡ Ok None
  pub unknown : request_read two_names (codes "weigh train") ≡ Err UnknownName
  pub too_many : request_read two_names (codes "draw hood") ≡ Err NoRequest
  pub other_state : request_read two_names (codes "enter train open") ≡ Err NoRequest
  pub numbers : lines_noted two_names (codes "draw" ∷ [] ∷ codes "polish" ∷ codes "why wheel" ∷ []) ≡ line 1 AVisit ∷ line 3 (AMistake NoRequest) ∷ line 4 (AWhy 1) ∷ []
  pub visits : visits_asked two_names (codes "draw" ∷ [] ∷ codes "why hood" ∷ codes "polish" ∷ codes "withdraw" ∷ []) ≡ Draw ∷ Withdraw ∷ []
  pub mistake : line_text 4 house [] 2 6 (AMistake NoRequest) None [] ≡ codes "6. this is neither a visit nor a question\n"
  pub asked : asked_text two_names (Suppose (record { statement = 0; present = false })) ≡ codes "suppose hood out"
  pub settled : answer_text two_names (1 ∷ 2 ∷ []) (Drawn Settled) ≡ codes "settled\n  in hood\n  out wheel\n"
  pub account : answer_text two_names (0 ∷ 1 ∷ []) (Sought (Some 1)) ≡ codes "account 1\n  in wheel\n"
  pub weighed : answer_text two_names [] (Weighed InEvery) ≡ codes "in every account\n"
  pub refused : came_text two_names [] (Some (Err (record { refusal = FindingStands; place = 0 }))) ≡ codes "refused 28 at 0: it has a standing finding\n"
  pub rule : support_text two_names three_rules 4 (1 ∷ 1 ∷ []) (ByRule 1) ≡ codes "rule 1, in the account of line 4\n  wheel :- hood, sum{hood:4, wheel:-1} >= 2, count{} = 0.\n  true by sum{hood:4, wheel:-1} >= 2\n  true by count{} = 0\n"
  pub members_in : support_text two_names three_rules 4 (1 ∷ 2 ∷ []) (ByRule 2) ≡ codes "rule 2, in the account of line 4\n  hood :- max{wheel:3, hood:1} <= 1.\n  true by max{hood:1} <= 1\n"
  pub no_rule : support_text two_names three_rules 4 (1 ∷ 1 ∷ []) ByNone ≡ codes "no rule, in the account of line 4\n"
  pub not_in : support_text two_names three_rules 4 (1 ∷ 2 ∷ []) NotIn ≡ codes "not in the account of line 4\n"
  pub sought_in_vain : latest 9 Seek [] (Some (4, 1 ∷ [])) (Some (Ok (Sought None))) ≡ None
  pub supposed_in_vain : latest 9 (Suppose (record { statement = 0; present = true })) [] (Some (4, 1 ∷ [])) (Some (Ok (Sought None))) ≡ Some (4, 1 ∷ [])
  pub found_again : latest 9 (Suppose (record { statement = 0; present = true })) (2 ∷ []) (Some (4, 1 ∷ [])) (Some (Ok (Sought (Some 0)))) ≡ Some (9, 2 ∷ [])
  pub no_account : stands_text 4 house [] 2 0 None ≡ codes "no account to ask of\n"
  pub standing : standing_text two_names (record { statement = 0; present = true } ∷ record { statement = 1; present = false } ∷ []) ≡ codes "standing: hood in, wheel out\n"
  -- the bytes that a sheet writes for marks are read as these marks
  pub marks : (m : Mark) → mark_of (byte_of m) ≡ m
