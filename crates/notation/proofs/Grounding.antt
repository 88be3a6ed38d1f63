-- The members of a set that are in, piece by piece, and the lines of a rule's aggregates.
use Rattle.std.proofs.Common.{◌≡◌, ℕ, ◌+◌, ◌-◌, ◌≤◌, Bool, true, false, cond, List, [], ◌∷◌, ◌++◌, map, filter, get_or, ℤ, codes, sym, refl, ap, ◌∙◌, append_assoc, append-nil, arith}
use Rattle.std.proofs.lemmas.Grind.{flat_map-append}
use Rattle.std.proofs.lemmas.List.{map-append, map-id}
use Rattle.std.proofs.lemmas.List.Elements.{filter_agree}
use Rattle.std.proofs.lemmas.List.Folds.{flat_map-map}
use Rattle.std.proofs.lemmas.List.FromFn.{filter_of_map_range_with_len_more, map-range_with_len_more}
use Rattle.notation.proofs.Joining.{joined_rows}
use Rattle.notation.proofs.Placed.{parts_at}
use Rattle.notation.specs.Grounds.{MembersSuffice, present_in, true_by}
use Rattle.semantics.specs.AnswerSets.{passes, weights}
use Rattle.notation.specs.Pieces.{between, member_at, parting, present_pieces, true_pieces}
use Rattle.notation.specs.Shown.{newline}
use Rattle.notation.specs.Text.{aggregate_text, joined, kind_text, member_text, name_text}
use Rattle.semantics.proofs.FullMarkings.{row_has}
use Rattle.semantics.specs.FullMarkings.{is_in, row_of}
use Rattle.semantics.specs.Markings.{at}
use Rattle.semantics.specs.Programs.{Aggregate}
use Rattle.semantics.specs.Rows.{has}
use Rattle.semantics.specs.Words.{relation_text}
use Rattle.semantics.specs.declared.Mark.{Mark}
use Rattle.semantics.specs.declared.Mark.TheVariants.{Open, In, Out}
use Rattle.semantics.specs.declared.Member.{Member}
use Rattle.std.specs.Fmt.{signed_decimal}
use Rattle.std.specs.List.{flat_map, range_with_len}
use Rattle.table.specs.Contents.{Contents}
use Rattle.table.specs.View.{Covers, ShowsAggregate, no_aggregate, no_member}
use Rattle.table.specs.declared.table.AggregateView.{AggregateView}
use Rattle.table.specs.declared.table.Run.{Run}

-- a piece more, with what parts it from those before
joined_more : (xs : List (List ℕ)) (y : List ℕ) → joined (codes ", ") (xs ++ y ∷ []) ≡ joined (codes ", ") xs ++ (parting xs ++ y)
joined_more xs y = joined_rows (codes ", ") xs (y ∷ []) ∙ ap (λ t. joined (codes ", ") xs ++ (t ++ y)) (same xs)
  where
    same : (xs : List (List ℕ)) → between (codes ", ") xs (y ∷ []) ≡ parting xs
    same [] = refl
    same (x ∷ xs) = refl

parting_more : (xs : List (List ℕ)) (y : List ℕ) → parting (xs ++ y ∷ []) ≡ codes ", "
parting_more [] y = refl
parting_more (x ∷ xs) y = refl

module _ (c : Contents) (m : List Mark) (from : ℕ) where
  -- the pieces after one place more
  pieces_more : (k : ℕ) → from ≤ k → present_pieces c m from (k + 1) ≡ present_pieces c m from k ++ cond (is_in (at m (member_at c m k).statement)) (member_text c.names (member_at c m k) ∷ []) []
  pieces_more k l =
      let e : k + 1 - from ≡ (k - from) + 1 = omega arith in
      let more = filter_of_map_range_with_len_more (λ a. is_in (at m a.statement)) (member_at c m) from (k - from) k (omega arith) in
      rw e (ap (map (member_text c.names)) more
      ∙ map-append (member_text c.names) (filter (λ a. is_in (at m a.statement)) (map (member_at c m) (range_with_len from (k - from)))) _
      ∙ ap (λ t. present_pieces c m from k ++ t) (one (is_in (at m (member_at c m k).statement))))
    where
      one : (b : Bool) → map (member_text c.names) (cond b (member_at c m k ∷ []) []) ≡ cond b (member_text c.names (member_at c m k) ∷ []) []
      one true = refl
      one false = refl

  added : (k : ℕ) (a : Member) → from ≤ k → a ≡ member_at c m k → at m a.statement ≡ In → present_pieces c m from (k + 1) ≡ present_pieces c m from k ++ member_text c.names a ∷ []
  added k a l e i =
      let present : is_in (at m (member_at c m k).statement) ≡ true = ap is_in (ap (λ x. at m x.statement) (sym e) ∙ i) in
      pieces_more k l ∙ ap (λ b. present_pieces c m from k ++ cond b (member_text c.names (member_at c m k) ∷ []) []) present
      ∙ ap (λ x. present_pieces c m from k ++ member_text c.names x ∷ []) (sym e)

  -- a member that is in has a piece, after what parts it from those before
  present_more : (k : ℕ) (a : Member) → from ≤ k → a ≡ member_at c m k → at m a.statement ≡ In → joined (codes ", ") (present_pieces c m from k) ++ (parting (present_pieces c m from k) ++ member_text c.names a) ≡ joined (codes ", ") (present_pieces c m from (k + 1))
  present_more k a l e i = sym (ap (joined (codes ", ")) (added k a l e i) ∙ joined_more (present_pieces c m from k) (member_text c.names a))

  pub present_written : (k : ℕ) (a : Member) → from ≤ k → a ≡ member_at c m k → at m a.statement ≡ In → (separator name : List ℕ) (weight : ℤ) → separator ≡ parting (present_pieces c m from k) → name ≡ name_text c.names a.statement → weight ≡ a.weight → joined (codes ", ") (present_pieces c m from k) ++ (separator ++ (name ++ (codes ":" ++ signed_decimal weight))) ≡ joined (codes ", ") (present_pieces c m from (k + 1))
  present_written k a l e i separator name weight parts named weighs = rw (parts, named, weighs) (present_more k a l e i)

  pub parting_after : (k : ℕ) (a : Member) → from ≤ k → a ≡ member_at c m k → at m a.statement ≡ In → codes ", " ≡ parting (present_pieces c m from (k + 1))
  parting_after k a l e i = sym (ap parting (added k a l e i) ∙ parting_more (present_pieces c m from k) (member_text c.names a))

  -- and one that is not has none
  pub present_same : (k : ℕ) (a : Member) → from ≤ k → a ≡ member_at c m k → (at m a.statement ≡ In → ⊥) → present_pieces c m from k ≡ present_pieces c m from (k + 1)
  present_same k a l e n =
      sym (pieces_more k l ∙ ap (λ b. present_pieces c m from k ++ cond b (member_text c.names (member_at c m k) ∷ []) []) (out (at m (member_at c m k).statement) (λ i. n (ap (λ x. at m x.statement) e ∙ i)))
      ∙ append-nil (present_pieces c m from k))
    where
      out : (v : Mark) → (v ≡ In → ⊥) → is_in v ≡ false
      out Open n = refl
      out In n = absurd (n refl)
      out Out n = refl

  -- one aggregate more has its line
  pub lines_more : (k : ℕ) → from ≤ k → true_pieces c m from k ++ true_by c.names (row_of m) (get_or c.aggregates k no_aggregate) ≡ true_pieces c m from (k + 1)
  lines_more k l =
      let e : k + 1 - from ≡ (k - from) + 1 = omega arith in
      let line = λ (j : ℕ). true_by c.names (row_of m) (get_or c.aggregates j no_aggregate) in
      rw e (sym (ap (flat_map line) (range_more from (k - from) k (omega arith)) ∙ flat_map-append line (range_with_len from (k - from)) (k ∷ [])
      ∙ ap (λ t. true_pieces c m from k ++ t) (append-nil (line k))))
    where
      range_more : (a n j : ℕ) → a + n ≡ j → range_with_len a (n + 1) ≡ range_with_len a n ++ j ∷ []
      range_more a n j e = sym (map-id (range_with_len a (n + 1))) ∙ map-range_with_len_more (λ i. i) a n j e ∙ ap (λ t. t ++ j ∷ []) (map-id (range_with_len a n))

-- the pieces of a run are the members that a set has in the row
present_all : (c : Contents) (m : List Mark) (ms : List Member) (r : Run) → Covers c.members ms r → present_pieces c m r.first r.end ≡ map (member_text c.names) (filter (λ a. has (row_of m) a.statement) ms)
present_all c m ms r covers =
    ap (λ xs. map (member_text c.names) (filter (λ a. is_in (at m a.statement)) xs)) (parts_at no_member covers)
    ∙ ap (map (member_text c.names)) (filter_agree (λ a. is_in (at m a.statement)) (λ a. has (row_of m) a.statement) (λ a. sym (row_has m a.statement)) ms)

present_shown : (c : Contents) (m : List Mark) (g : Aggregate) (v : AggregateView) (bound : ℤ) → ShowsAggregate c g v → bound ≡ v.bound → kind_text v.kind ++ (codes "{" ++ (joined (codes ", ") (present_pieces c m v.members.first v.members.end) ++ (codes "} " ++ (relation_text v.relation ++ (codes " " ++ signed_decimal bound))))) ≡ aggregate_text c.names (present_in (row_of m) g)
present_shown c m g v bound shows e =
    let members = present_all c m g.members v.members shows.members in
    cc

-- six texts and a last one behind them
with_last : (a b d e f g h last : List ℕ) → (a ++ (b ++ (d ++ (e ++ (f ++ (g ++ h)))))) ++ last ≡ a ++ (b ++ (d ++ (e ++ (f ++ (g ++ (h ++ last))))))
with_last a b d e f g h last = simp append_assoc

pub true_by_shown : (c : Contents) (m : List Mark) (g : Aggregate) (v : AggregateView) (bound : ℤ) → ShowsAggregate c g v → bound ≡ v.bound → codes "  true by " ++ (kind_text v.kind ++ (codes "{" ++ (joined (codes ", ") (present_pieces c m v.members.first v.members.end) ++ (codes "} " ++ (relation_text v.relation ++ (codes " " ++ (signed_decimal bound ++ newline))))))) ≡ true_by c.names (row_of m) g
true_by_shown c m g v bound shows e =
    ap (λ t. codes "  true by " ++ t)
    (sym (with_last (kind_text v.kind) (codes "{") (joined (codes ", ") (present_pieces c m v.members.first v.members.end)) (codes "} ") (relation_text v.relation) (codes " ") (signed_decimal bound) newline)
    ∙ ap (λ t. t ++ newline) (present_shown c m g v bound shows e))

-- the lines of a run are those of the rule's aggregates
pub lines_all : (c : Contents) (m : List Mark) (gs : List Aggregate) (r : Run) → Covers c.aggregates gs r → true_pieces c m r.first r.end ≡ flat_map (true_by c.names (row_of m)) gs
lines_all c m gs r covers =
    sym (flat_map-map (true_by c.names (row_of m)) (λ j. get_or c.aggregates j no_aggregate) (range_with_len r.first (r.end - r.first)))
    ∙ ap (flat_map (true_by c.names (row_of m))) (parts_at no_aggregate covers)

-- the weights of the members that are in are those of all members in the row
pub members_suffice : (s : List Bool) → MembersSuffice s
members_suffice s value g = ap (λ w. passes g.relation g.bound (value g.kind w)) (same g.members)
  where
    one : (b : Bool) (a : Member) (ms : List Member) → has s a.statement ≡ b → weights (has s) (cond b (a ∷ ms) ms) ≡ cond b (a.weight ∷ weights (has s) ms) (weights (has s) ms)
    one true a ms e = ap (λ b. cond b (a.weight ∷ weights (has s) ms) (weights (has s) ms)) e
    one false a ms e = refl

    same : (ms : List Member) → weights (has s) (filter (λ a. has s a.statement) ms) ≡ weights (has s) ms
    same [] = refl
    same (a ∷ ms) =
        one (has s a.statement) a (filter (λ x. has s x.statement) ms) refl
        ∙ ap (λ w. cond (has s a.statement) (a.weight ∷ w) w) (same ms)
