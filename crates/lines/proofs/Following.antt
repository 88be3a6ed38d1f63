-- Texts that are written one after another into what is left of a part.
use Rattle.std.proofs.Common.{◌≡◌, ℕ, ◌+◌, ◌-◌, ◌≤◌, List, ◌++◌, length, take, drop, sym, ap, ◌∙◌, subst, append_assoc, length-append, arith}
use Rattle.lines.specs.Reports.{Written, over}
use Rattle.std.proofs.lemmas.List.{drop-drop, drop-take, drop_at, take-append-drop, take_at}
use borrow.Rule.Slice.PartMut.{put_mid}

-- what is behind the first n of so many, and behind these
behind : (n m : ℕ) (xs : List ℕ) → drop n (take (n + m) xs) ++ drop (n + m) xs ≡ drop n xs
behind n m xs = rw (drop-take n m xs, ← drop-drop m n xs) (take-append-drop m (drop n xs))

-- a text at the front of bytes that are handed on, and what follows them
over_front : (t xs : List ℕ) (k : ℕ) → length t ≤ k → over t (take k xs) ++ drop k xs ≡ over t xs
over_front t xs k h =
    let n = length t in
    let e : k ≡ n + (k - n) = omega arith in
    append_assoc t (drop n (take k xs)) (drop k xs) ∙ ap (λ r. t ++ r) (rw e (behind n (k - n) xs))

-- behind one text, at a, k bytes are handed on, and the next is written at their front
next_over : (a k : ℕ) (s t old xs ys : List ℕ) → xs ≡ over s old → a ≡ length s → length t ≤ k → ys ≡ over t (take k (drop a xs)) → put_mid a k xs ys ≡ over (s ++ t) old
next_over a k s t old xs ys e l h f =
    let front : take a xs ≡ s = ap (take a) e ∙ take_at s _ a (sym l) in
    let rest : drop a xs ≡ drop (length s) old = ap (drop a) e ∙ drop_at s _ a (sym l) in
    let more : drop (length t) (drop (length s) old) ≡ drop (length (s ++ t)) old = drop-drop (length t) (length s) old ∙ ap (λ n. drop n old) (sym (length-append s t)) in
    rw (f, front, rest, over_front t (drop (length s) old) k h, more) (sym (append_assoc s t (drop (length (s ++ t)) old)))

pub same_text : {s t old xs : List ℕ} {a : ℕ} → s ≡ t → Written s old xs a → Written t old xs a
same_text {old = old} {xs = xs} {a = a} e w = subst (λ x. Written x old xs a) e w

-- the first text, in k bytes that are handed on
pub in_front : {t xs ys : List ℕ} {b : ℕ} (k : ℕ) → length t ≤ k → Written t (take k xs) ys b → Written t xs (ys ++ drop k xs) b
in_front {t = t} {xs = xs} k h w = record { end = w.end; bytes = ap (λ zs. zs ++ drop k xs) w.bytes ∙ over_front t xs k h }

-- and the next one behind it
pub then_text : {s t old xs ys : List ℕ} {a b : ℕ} (k : ℕ) → length t ≤ k → Written s old xs a → Written t (take k (drop a xs)) ys b → Written (s ++ t) old (put_mid a k xs ys) (a + b)
then_text {s = s} {t = t} {old = old} {xs = xs} {ys = ys} {a = a} k h v w = record {
  end = omega (arith, v.end, w.end, length-append s t);
  bytes = next_over a k s t old xs ys v.bytes v.end h w.bytes;
}
