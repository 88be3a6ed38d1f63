-- The pieces of a rule's text, by the places of a table.
use Rattle.std.specs.Prelude.{ℕ, ◌-◌, Bool, true, false, if◌then◌else◌, List, [], ◌∷◌, ◌++◌, codes, filter, map, nat_lt, slice_index, slice_index_or}
use Rattle.notation.specs.Grounds.{true_by}
use Rattle.notation.specs.Text.{aggregate_text, member_text, name_text, not_text}
use Rattle.semantics.specs.FullMarkings.{is_in, row_of}
use Rattle.semantics.specs.Markings.{at}
use Rattle.semantics.specs.declared.Mark.{Mark}
use Rattle.semantics.specs.declared.Member.{Member}
use Rattle.std.specs.List.{flat_map, range_with_len}
use Rattle.table.specs.Contents.{Contents}
use Rattle.table.specs.View.{no_aggregate, no_member}
use Rattle.table.specs.declared.table.RuleView.{RuleView}
use Rattle.table.specs.declared.table.Run.{Run}

abbrev pub none : {X : Type 0} → List X → Bool
none [] = true
none (x ∷ xs) = false

-- what stands between two rows: the sign where both have something
abbrev pub between : {X Y : Type 0} → List ℕ → List X → List Y → List ℕ
between sign [] ys = []
between sign (x ∷ xs) [] = []
between sign (x ∷ xs) (y ∷ ys) = sign

abbrev pub places : Run → List ℕ
places r = range_with_len r.first (r.end - r.first)

-- the positive and the negative statements, which are adjacent
abbrev pub body_run : RuleView → Run
body_run v = record { first = v.positive.first; end = v.negative.end }

module _ (c : Contents) where
  -- the statement at place k of the literals, negated from a place on
  abbrev pub literal_piece : ℕ → ℕ → List ℕ
  literal_piece negated k = if nat_lt k negated then name_text c.names (slice_index c.literals k) else not_text c.names (slice_index c.literals k)

  abbrev pub member_piece : ℕ → List ℕ
  member_piece k = member_text c.names (slice_index_or c.members k no_member)

  abbrev pub aggregate_piece : ℕ → List ℕ
  aggregate_piece j = aggregate_text c.names (slice_index_or c.aggregates j no_aggregate)

  abbrev pub head_pieces : RuleView → List (List ℕ)
  head_pieces v = map (literal_piece v.head.end) (places v.head)

  abbrev pub premise_pieces : RuleView → List (List ℕ)
  premise_pieces v = map (literal_piece v.positive.end) (places (body_run v)) ++ map aggregate_piece (places v.aggregates)

-- what stands before a piece that comes after these: nothing before the first
abbrev pub parting : {X : Type 0} → List X → List ℕ
parting [] = []
parting (x ∷ xs) = codes ", "

module _ (c : Contents) (m : List Mark) where
  abbrev pub member_at : ℕ → Member
  member_at k = slice_index_or c.members k no_member

  -- the members from a place to before another that are in
  abbrev pub present_pieces : ℕ → ℕ → List (List ℕ)
  present_pieces from to = map (member_text c.names) (filter (λ a. is_in (at m a.statement)) (map member_at (range_with_len from (to - from))))

  -- a line for each aggregate from a place to before another
  abbrev pub true_pieces : ℕ → ℕ → List ℕ
  true_pieces from to = flat_map (λ j. true_by c.names (row_of m) (slice_index_or c.aggregates j no_aggregate)) (range_with_len from (to - from))
