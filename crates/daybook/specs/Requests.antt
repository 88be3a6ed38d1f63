-- What the lines of a journal ask for: `enter hood in`, `withdraw`, `draw`, `seek`, `weigh hood`, `suppose hood out`, and
-- `why hood`.
use Rattle.std.specs.Prelude.{ℕ, Bool, true, false, ◌==◌, if◌then◌else◌, List, [], ◌∷◌, Option, Some, None, Result, Ok, Err, bytes_eq, codes, position, slice_index}
use Rattle.daybook.specs.Words.{words_of}
use Rattle.daybook.specs.declared.reading.Mistake.{Mistake}
use Rattle.daybook.specs.declared.reading.Mistake.TheVariants.{NoRequest, UnknownName}
use Rattle.daybook.specs.declared.reading.Request.{Request}
use Rattle.daybook.specs.declared.reading.Request.TheVariants.{Visit as Visiting, Why}
use Rattle.semantics.specs.declared.Finding.{Finding}
use Rattle.sheet.specs.declared.visits.Visit.TheVariants.{Enter, Withdraw, Draw, Seek, Weigh, Suppose}
use Rattle.std.specs.Option.{ok_or}

-- what is wrong, in words
abbrev pub mistake_text : Mistake → List ℕ
mistake_text NoRequest = codes "this is neither a visit nor a question"
mistake_text UnknownName = codes "the table has no statement of this name"

-- a line with `#` in front
abbrev pub is_remark : List ℕ → Bool
is_remark line = slice_index line 0 == 35

-- what is made of a value; a mistake stays
abbrev pub result_map : {X Y : Type 0} → (X → Y) → Result X Mistake → Result Y Mistake
result_map f (Ok x) = Ok (f x)
result_map f (Err mistake) = Err mistake

-- what is asked for by one word
abbrev pub request_alone : List ℕ → Result Request Mistake
request_alone verb =
    if bytes_eq verb (codes "withdraw") then Ok (Visiting Withdraw)
    else if bytes_eq verb (codes "draw") then Ok (Visiting Draw)
    else if bytes_eq verb (codes "seek") then Ok (Visiting Seek)
    else Err NoRequest

module _ (names : List (List ℕ)) where
  -- the first statement of this name
  abbrev pub statement_of : List ℕ → Option ℕ
  statement_of name = position (λ other. bytes_eq other name) names

  -- or that there is none
  abbrev pub known_statement : List ℕ → Result ℕ Mistake
  known_statement name = ok_or (statement_of name) UnknownName

  -- the statement of this name is in, or out
  abbrev pub finding_of : List ℕ → List ℕ → Result Finding Mistake
  finding_of name state =
      if bytes_eq state (codes "in") then result_map (λ q. record { statement = q; present = true }) (known_statement name)
      else if bytes_eq state (codes "out") then result_map (λ q. record { statement = q; present = false }) (known_statement name)
      else Err NoRequest

  -- by two or three words
  abbrev pub request_of_statement : List ℕ → List ℕ → Result Request Mistake
  request_of_statement verb name =
      if bytes_eq verb (codes "weigh") then result_map (λ q. Visiting (Weigh q)) (known_statement name)
      else if bytes_eq verb (codes "why") then result_map Why (known_statement name)
      else Err NoRequest

  abbrev pub request_of_finding : List ℕ → List ℕ → List ℕ → Result Request Mistake
  request_of_finding verb name state =
      if bytes_eq verb (codes "enter") then result_map (λ f. Visiting (Enter f)) (finding_of name state)
      else if bytes_eq verb (codes "suppose") then result_map (λ f. Visiting (Suppose f)) (finding_of name state)
      else Err NoRequest

  abbrev pub request_of : List (List ℕ) → Result Request Mistake
  request_of [] = Err NoRequest
  request_of (verb ∷ []) = request_alone verb
  request_of (verb ∷ name ∷ []) = request_of_statement verb name
  request_of (verb ∷ name ∷ state ∷ []) = request_of_finding verb name state
  request_of (verb ∷ name ∷ state ∷ more ∷ others) = Err NoRequest

  -- a line with no words is passed over
  abbrev pub request_if_any : List (List ℕ) → Result (Option Request) Mistake
  request_if_any [] = Ok None
  request_if_any (word ∷ words) = result_map Some (request_of (word ∷ words))

  -- and so is a remark
  abbrev pub request_read : List ℕ → Result (Option Request) Mistake
  request_read line = if is_remark line then Ok None else request_if_any (words_of line)
