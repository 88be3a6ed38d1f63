-- The pieces at the places of a run are the texts of what the run shows.
use Rattle.std.proofs.Common.{◌≡◌, ℕ, zero, suc, ◌+◌, ◌-◌, ◌<◌, ◌≤◌, List, ◌∷◌, ◌++◌, map, length, get_or, ℤ, codes, sym, refl, ap, ◌∙◌, append_assoc, arith}
use Rattle.notation.proofs.Joining.{sign_mapped, two_rows}
use Rattle.notation.specs.Pieces.{aggregate_piece, between, body_run, head_pieces, literal_piece, member_piece, places, premise_pieces}
use Rattle.notation.specs.Text.{aggregate_text, joined, kind_text, member_text, name_text, not_text, premises, rule_text, sign_text}
use Rattle.std.proofs.lemmas.List.{drop_more, map-id}
use Rattle.std.proofs.lemmas.Bool.{cond_above, cond_below}
use Rattle.std.specs.List.{range_with_len}
use Rattle.std.specs.Fmt.{signed_decimal}
use Rattle.semantics.specs.Programs.{Aggregate, Rule}
use Rattle.semantics.specs.Words.{relation_text}
use Rattle.table.specs.Contents.{Contents, slice}
use Rattle.table.specs.View.{Covers, ShowsAggregate, ShowsRule, no_aggregate, no_member}
use Rattle.table.specs.declared.table.AggregateView.{AggregateView}
use Rattle.table.specs.declared.table.RuleView.{RuleView}
use Rattle.table.specs.declared.table.Run.{Run}

-- from place to place, then over a run
mapped_part : {X Y : Type 0} (f : X → Y) (p : ℕ → Y) (d : X) (all : List X) (a n : ℕ) → a + n ≤ length all → ((k : ℕ) → a ≤ k → k < a + n → p k ≡ f (get_or all k d)) → map p (range_with_len a n) ≡ map f (slice a n all)
mapped_part f p d all a zero h at = refl
mapped_part f p d all a (suc n) h at =
    let rest = mapped_part f p d all (a + 1) n (omega arith) (λ k l m. at k (omega arith) (omega arith)) in
    let here = at a (omega arith) (omega arith) in
    rw (drop_more all a d (omega arith)) (cc)

pub texts_at : {X : Type 0} {all xs : List X} {r : Run} (f : X → List ℕ) (p : ℕ → List ℕ) (d : X) → Covers all xs r → ((k : ℕ) → r.first ≤ k → k < r.end → p k ≡ f (get_or all k d)) → map p (places r) ≡ map f xs
texts_at {all} {xs} {r} f p d v at =
    mapped_part f p d all r.first (r.end - r.first) (omega (arith, v.forward, v.inside)) (λ k l m. at k l (omega (arith, v.forward)))
    ∙ sym (ap (map f) v.part)

-- what stands at the places of a run is what the run shows
pub parts_at : {X : Type 0} {all xs : List X} {r : Run} (d : X) → Covers all xs r → map (λ k. get_or all k d) (places r) ≡ xs
parts_at {X} {all} {xs} {r} d v =
    mapped_part (λ x. x) (λ k. get_or all k d) d all r.first (r.end - r.first) (omega (arith, v.forward, v.inside)) (λ k l m. refl)
    ∙ map-id (slice r.first (r.end - r.first) all) ∙ sym v.part

pub aggregate_shown : (c : Contents) (g : Aggregate) (v : AggregateView) (bound : ℤ) → ShowsAggregate c g v → bound ≡ v.bound → kind_text v.kind ++ (codes "{" ++ (joined (codes ", ") (map (member_piece c) (places v.members)) ++ (codes "} " ++ (relation_text v.relation ++ (codes " " ++ signed_decimal bound))))) ≡ aggregate_text c.names g
aggregate_shown c g v bound shows e =
    let members = texts_at (member_text c.names) (member_piece c) no_member shows.members (λ k l m. refl) in
    cc

-- A rule's texts.
map_counting_parts : {X : Type 0} (p : ℕ → X) (a n m : ℕ) → map p (range_with_len a (n + m)) ≡ map p (range_with_len a n) ++ map p (range_with_len (a + n) m)
map_counting_parts p a zero m = let e : 0 + m ≡ m = omega arith in let z : a + 0 ≡ a = omega arith in cc
map_counting_parts p a (suc n) m =
    let e : suc n + m ≡ suc (n + m) = omega arith in
    let z : a + suc n ≡ a + 1 + n = omega arith in
    rw (e, z) (ap (λ t. p a ∷ t) (map_counting_parts p (a + 1) n m))

pub premises_row : (c : Contents) (v : RuleView) (r : Run) (parting : List ℕ) → r ≡ body_run v → parting ≡ between (codes ", ") (places r) (places v.aggregates) → joined (codes ", ") (map (literal_piece c v.positive.end) (places r)) ++ (parting ++ joined (codes ", ") (map (aggregate_piece c) (places v.aggregates))) ≡ joined (codes ", ") (premise_pieces c v)
premises_row c v r parting e b =
    let rows = two_rows (codes ", ") parting (literal_piece c v.positive.end) (aggregate_piece c) (places r) (places v.aggregates) b in
    cc

module _ (c : Contents) (g : Rule) (v : RuleView) (shows : ShowsRule c g v) where
  head_shown : head_pieces c v ≡ map (name_text c.names) g.head
  head_shown = texts_at _ _ 0 shows.head (λ k l m. sym (cond_below k v.head.end _ _ m))

  body_shown : map (literal_piece c v.positive.end) (places (body_run v)) ≡ map (name_text c.names) g.positive ++ map (not_text c.names) g.negative
  body_shown =
      let p = literal_piece c v.positive.end in
      let n = v.positive.end - v.positive.first in
      let m = v.negative.end - v.negative.first in
      let count : v.negative.end - v.positive.first ≡ n + m = omega (arith, shows.positive.forward, shows.negative.forward, shows.adjacent) in
      let start : v.positive.first + n ≡ v.negative.first = omega (arith, shows.positive.forward, shows.adjacent) in
      let parts = map_counting_parts p v.positive.first n m in
      let positive = texts_at (name_text c.names) p 0 shows.positive (λ k l m. sym (cond_below k v.positive.end _ _ m)) in
      let negative = texts_at (not_text c.names) p 0 shows.negative (λ k l m. sym (cond_above k v.positive.end _ _ _ (omega (arith, shows.adjacent)) refl)) in
      cc

  premises_shown : premise_pieces c v ≡ premises c.names g
  premises_shown =
      let aggregates = texts_at (aggregate_text c.names) (aggregate_piece c) no_aggregate shows.aggregates (λ k l m. refl) in
      let body = body_shown in
      cc (append_assoc (map (name_text c.names) g.positive) (map (not_text c.names) g.negative) (map (aggregate_text c.names) g.aggregates))

  pub rule_shown : (sign : List ℕ) → sign ≡ sign_text (places v.head) (places (body_run v) ++ places v.aggregates) → joined (codes " | ") (head_pieces c v) ++ (sign ++ (joined (codes ", ") (premise_pieces c v) ++ codes ".")) ≡ rule_text c.names g
  rule_shown sign e =
      let head = head_shown in
      let premises = premises_shown in
      let signs = sign_mapped (literal_piece c v.head.end) (literal_piece c v.positive.end) (aggregate_piece c) (places v.head) (places (body_run v)) (places v.aggregates) in
      cc
