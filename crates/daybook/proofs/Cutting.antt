-- Words that are cut off a line one after the other.
use Rattle.std.proofs.Common.{◌≡◌, ℕ, ◌<◌, true, false, cond, List, [], ◌∷◌, ◌++◌, map, filter, length, get_or, take, nat_lt, Some, None, Option, MatchOption, refl, sym, ap, ◌∙◌, append-nil, arith}
use Rattle.std.proofs.lemmas.Bool.{lt-ltb}
use Rattle.std.proofs.lemmas.Bool.Decides.{nat_tests}
use Rattle.std.proofs.lemmas.List.Elements.{All-from_get_or, All-head, All-tail}
use Rattle.std.proofs.lemmas.List.Splits.{slice_split-cons_yes, slice_split_none, slice_split_at}
use Rattle.std.proofs.lemmas.Str.{NoCharPasses-byte}
use Rattle.std.specs.Char.{is_ascii_whitespace}
use Rattle.std.specs.List.{All, AllPass, slice_split}
use Rattle.std.specs.Option.{some_prefix}
use Rattle.std.specs.Str.{NoCharPasses}
use Rattle.std.specs.Str.Iter.{CutsAsciiWord, IsAsciiSeparator}
use Rattle.daybook.specs.Requests.{result_map, request_if_any, request_of}
use Rattle.daybook.specs.Words.{words_of}
use denote.Ref.{Bor}

-- no byte of a text is a blank where no character is one
not_blank : (bs : List ℕ) → NoCharPasses is_ascii_whitespace bs → All (λ b. is_ascii_whitespace b ≡ false) bs
not_blank bs h = All-from_get_or (λ b. is_ascii_whitespace b ≡ false) bs 0 (λ k l. low_or_high (get_or bs k 0) (NoCharPasses-byte is_ascii_whitespace bs k h l))
  where
    low_or_high : (b : ℕ) → (b < 128 → is_ascii_whitespace b ≡ false) → is_ascii_whitespace b ≡ false
    low_or_high b h = grind (arith, nat_tests)

-- blanks in front make no word
words_after_blank : (gap bs : List ℕ) → AllPass is_ascii_whitespace gap → words_of (gap ++ bs) ≡ words_of bs
words_after_blank [] bs h = refl
words_after_blank (b ∷ gap) bs h =
    let here : is_ascii_whitespace b ≡ true = All-head (λ x. is_ascii_whitespace x ≡ true) b gap h in
    ap (filter (λ part. nat_lt 0 (length part))) (slice_split-cons_yes is_ascii_whitespace b (gap ++ bs) here) ∙ words_after_blank gap bs (All-tail (λ x. is_ascii_whitespace x ≡ true) b gap h)

-- a part with letters is a word
with_letters : (x : List ℕ) (parts : List (List ℕ)) → 0 < length x → filter (λ part. nat_lt 0 (length part)) (x ∷ parts) ≡ x ∷ filter (λ part. nat_lt 0 (length part)) parts
with_letters x parts some = let kept = filter (λ part. nat_lt 0 (length part)) parts in ap (λ b. cond b (x ∷ kept) kept) (lt-ltb 0 (length x) some)

-- a word with a blank behind it, and one at the end
words_at_word : (x : List ℕ) (b : ℕ) (rest : List ℕ) → 0 < length x → All (λ y. is_ascii_whitespace y ≡ false) x → is_ascii_whitespace b ≡ true → words_of (x ++ b ∷ rest) ≡ x ∷ words_of rest
words_at_word x b rest some h e = ap (filter (λ part. nat_lt 0 (length part))) (slice_split_at is_ascii_whitespace x b rest h e) ∙ with_letters x (slice_split is_ascii_whitespace rest) some

words_at_end : (x : List ℕ) → 0 < length x → All (λ y. is_ascii_whitespace y ≡ false) x → words_of x ≡ x ∷ []
words_at_end x some h = ap (filter (λ part. nat_lt 0 (length part))) (slice_split_none is_ascii_whitespace x h) ∙ with_letters x [] some

-- blanks alone have no words
none_after : (bs : List ℕ) → AllPass is_ascii_whitespace bs → words_of bs ≡ []
none_after bs h = ap words_of (sym (append-nil bs)) ∙ words_after_blank bs [] h

-- a word, whether a blank ends it or the line
word_before : (x sep rest : List ℕ) → 0 < length x → All (λ y. is_ascii_whitespace y ≡ false) x → IsAsciiSeparator sep rest → words_of (x ++ (sep ++ rest)) ≡ x ∷ words_of rest
word_before x [] [] some h e = ap words_of (append-nil x) ∙ words_at_end x some h
word_before x [] (y ∷ rest) some h e = absurd (omega (arith, e.2 refl))
word_before x (b ∷ []) rest some h e = words_at_word x b rest some h (All-head (λ y. is_ascii_whitespace y ≡ true) b [] e.0)
word_before x (b ∷ b' ∷ sep) rest some h e = absurd (omega (arith, e.1))

-- a call takes off the first word, and there is none where no words are left
pub word_cut : (bs rest : List ℕ) (r : Option (Bor (List ℕ))) → CutsAsciiWord bs r rest (λ gap x sep. gap ++ (x ++ (sep ++ rest))) → MatchOption r (words_of bs ≡ []) (λ x. words_of bs ≡ x.now ∷ words_of rest)
word_cut bs rest None h = none_after bs h.0
word_cut bs rest (Some x) h =
    let (gap, sep, is, blank, end) = h.3 in
    ap words_of is ∙ words_after_blank gap _ blank ∙ word_before x.now sep rest h.0 (not_blank x.now h.1) end

-- four calls give the first four words
pub four_cut : (w0 w1 w2 w3 w4 : List (List ℕ)) (r1 r2 r3 r4 : Option (Bor (List ℕ))) → MatchOption r1 (w0 ≡ []) (λ x. w0 ≡ x.now ∷ w1) → MatchOption r2 (w1 ≡ []) (λ x. w1 ≡ x.now ∷ w2) → MatchOption r3 (w2 ≡ []) (λ x. w2 ≡ x.now ∷ w3) → MatchOption r4 (w3 ≡ []) (λ x. w3 ≡ x.now ∷ w4) → map (λ word. word.now) (some_prefix (r1 ∷ r2 ∷ r3 ∷ r4 ∷ [])) ≡ take 4 w0
four_cut w0 w1 w2 w3 w4 None r2 r3 r4 a b c d = rw a refl
four_cut w0 w1 w2 w3 w4 (Some x) None r3 r4 a b c d = rw (a, b) refl
four_cut w0 w1 w2 w3 w4 (Some x) (Some y) None r4 a b c d = rw (a, b, c) refl
four_cut w0 w1 w2 w3 w4 (Some x) (Some y) (Some z) None a b c d = rw (a, b, c, d) refl
four_cut w0 w1 w2 w3 w4 (Some x) (Some y) (Some z) (Some w) a b c d = rw (a, b, c, d) refl

-- a request has no more than three words, so four tell which it is
pub four_tell : (names : List (List ℕ)) (words : List (List ℕ)) → request_if_any names (take 4 words) ≡ request_if_any names words
four_tell names [] = refl
four_tell names (a ∷ []) = refl
four_tell names (a ∷ b ∷ []) = refl
four_tell names (a ∷ b ∷ c ∷ []) = refl
four_tell names (a ∷ b ∷ c ∷ d ∷ more) = refl

-- where there is a first word, something is asked for
pub any_word : (names : List (List ℕ)) (words : List (Option (Bor (List ℕ)))) (x : Bor (List ℕ)) → get_or words 0 None ≡ Some x → result_map Some (request_of names (map (λ word. word.now) (some_prefix words))) ≡ request_if_any names (map (λ word. word.now) (some_prefix words))
any_word names [] x e = cc
any_word names (None ∷ words) x e = cc
any_word names (Some word ∷ words) x e = refl
