-- On what a statement of a row stands, and the rows that seeking writes.
use Rattle.std.proofs.Common.{◌≡◌, ◌≢◌, ℕ, ◌<◌, ◌==◌, Bool, true, false, List, [], ◌∷◌, map, drop, length, get_or, slice_index, Ok, Result, refl, sym, ap, ◌∙◌, subst, arith}
use Rattle.std.proofs.lemmas.List.{ext_get_or, get_or-map, get_or_append_left, length-map}
use Rattle.std.proofs.lemmas.List.FromFn.{get_or-map-range_with_len, length-map-range_with_len}
use Rattle.format.proofs.Verdicts.{clean}
use Rattle.format.specs.Faults.{verdict}
use Rattle.refusal.specs.declared.Fault.{Fault}
use Rattle.semantics.specs.Families.{Values}
use Rattle.semantics.specs.Markings.{marked}
use Rattle.semantics.specs.declared.Finding.{Finding}
use Rattle.semantics.specs.declared.Mark.TheVariants.{Open}
use Rattle.sheet.proofs.Refused.{why_statements}
use Rattle.sheet.specs.Outcomes.{FirstOr, FoundTo, WhyOutcome, byte_of, row_written, why_answer, why_faults}
use Rattle.solver.proofs.Supporting.{never_by_none, stands_on}
use Rattle.solver.specs.Support.{StandsOn, row_read, support_of}
use Rattle.solver.specs.declared.support.Support.{Support}
use Rattle.solver.specs.declared.support.Support.TheVariants.{ByNone}
use Rattle.table.specs.Contents.{contents, program}

-- the first fault, or the answer of which P is so
first_or : {X : Type 0} (faults : List Fault) (P : X → Type 0) (x : X) → P x → FirstOr faults P (verdict faults x)
first_or [] P x p = p
first_or (e ∷ es) P x p = refl

-- the bytes that seeking writes are read as the row that they were written for
one_marked : (b : Bool) → (byte_of (marked b) == 1) ≡ b
one_marked true = refl
one_marked false = refl

pub read_back : (s : List Bool) (part : List ℕ) → row_read (length s) (row_written s part) ≡ s
read_back s part = ext_get_or false (row_read (length s) (row_written s part)) s (length-map-range_with_len is_one 0 (length s)) each
  where
    is_one : ℕ → Bool
    is_one k = slice_index (row_written s part) k == 1

    bytes : List ℕ
    bytes = map byte_of (map marked s)

    byte_at : (k : ℕ) → k < length s → slice_index (row_written s part) k ≡ byte_of (marked (get_or s k false))
    byte_at k l =
        get_or_append_left bytes (drop (length (map marked s)) part) 0 k (omega (arith, l, length-map (map marked s) byte_of, length-map s marked))
        ∙ get_or-map byte_of (map marked s) k Open 0 (omega (arith, l, length-map s marked))
        ∙ ap byte_of (get_or-map marked s k false Open l)

    each : (k : ℕ) → k < length (row_read (length s) (row_written s part)) → get_or (row_read (length s) (row_written s part)) k false ≡ get_or s k false
    each k l =
        let inside : k < length s = omega (arith, l, length-map-range_with_len is_one 0 (length s)) in
        get_or-map-range_with_len is_one 0 (length s) k k false inside (omega arith)
        ∙ ap (λ y. y == 1) (byte_at k inside) ∙ one_marked (get_or s k false)

module _ (kinds : ℕ) (value : Values) (b : List ℕ) (n q : ℕ) (row : List ℕ) (r : Result Support Fault) (e : r ≡ why_answer kinds value b n q row) where
  -- what the answer says is so
  pub why_outcome : WhyOutcome kinds value b n q row r
  why_outcome = subst (WhyOutcome kinds value b n q row) (sym e)
      (first_or (why_faults kinds b n q row) (StandsOn value (program (contents b)) (row_read n row) q) (support_of value (program (contents b)) (row_read n row) q)
      (stands_on value (program (contents b)) (row_read n row) q))

  -- and of an account that seeking wrote, it is never that no rule supports a statement
  pub why_account : (fs : List Finding) (part : List ℕ) (many : ℕ) → FoundTo value (program (contents b)) fs part row many → r ≢ Ok ByNone
  why_account fs part many found none =
      let p = program (contents b) in
      let s = support_of value p (row_read n row) q in
      let said : verdict (why_faults kinds b n q row) s ≡ Ok ByNone = sym e ∙ none in
      let faultless = clean (why_faults kinds b n q row) s ByNone said in
      let same : length found.row ≡ n = found.earliest.account.answer.long ∙ why_statements kinds b n q row faultless in
      let read : row_read n row ≡ found.row = ap (λ k. row_read k row) (sym same) ∙ ap (row_read (length found.row)) found.bytes ∙ read_back found.row part in
      let by_none : Ok s ≡ Ok ByNone = ap (λ fs. verdict fs s) (sym faultless) ∙ said in
      never_by_none value p found.row q found.earliest.account.answer (ap (λ t. support_of value p t q) (sym read) ∙ cc)
