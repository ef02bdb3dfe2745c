-- Three octal digits by one look-up, and the digits of words and halves by threes.
use Rattle.std.proofs.Common.{◌≡◌, ℕ, ◌+◌, ◌/◌, ◌%◌, ◌^◌, ◌<◌, ◌≤◌, List, [], ◌∷◌, ◌++◌, length, take, map, slice_index_or, refl, sym, ap, ◌∙◌, arith, length-append}
use Rattle.std.specs.List.{range_with_len}
use Rattle.std.proofs.lemmas.List.FromFn.{get_or-map-range_with_len}
use Rattle.std.proofs.lemmas.List.{append_assoc, take_at, take_all}
use Rattle.m36_text.specs.Digits.{digits, octal_text, word_text, half_text}
use Rattle.m36_text.proofs.DigitLaws.{length_octal}
use Rattle.m36_trace.specs.Spaced.{with_space, all_triples}
use Rattle.m36_trace.specs.declared.triples.TheConstants.{TRIPLES}

-- the table has its defined values
pub triples : TRIPLES ≡ all_triples
unfolding all_triples octal_text digits
triples = refl

pub triple_of :
    (rows : List (List ℕ)) (v : ℕ) (d : List ℕ)
    → rows ≡ all_triples → v < 512 → slice_index_or rows v d ≡ with_space (octal_text 3 v)
unfolding all_triples
triple_of rows v d are below =
    ap (λ (l : List (List ℕ)). slice_index_or l v d) are
    ∙ get_or-map-range_with_len (λ v. with_space (octal_text 3 v)) 0 512 v v d below (omega arith)

-- the last three digits are those of nine bits
triple_low : (v : ℕ) → octal_text 3 (v % 512) ≡ octal_text 3 v
unfolding octal_text digits
triple_low v =
    let a : 48 + v % 512 / 64 % 8 ≡ 48 + v / 64 % 8 = omega arith in
    let b : 48 + v % 512 / 8 % 8 ≡ 48 + v / 8 % 8 = omega arith in
    let c : 48 + v % 512 / 1 % 8 ≡ 48 + v / 1 % 8 = omega arith in
    λ i. a i ∷ (b i ∷ (c i ∷ []))

-- a word is four groups of three digits, and a half is two
word_by_threes :
    (w : ℕ) → word_text w ≡ ((octal_text 3 (w / 2 ^ 27) ++ octal_text 3 (w / 2 ^ 18)) ++ octal_text 3 (w / 2 ^ 9)) ++ octal_text 3 w
unfolding octal_text digits
word_by_threes w =
    let a : 48 + w / 8 ^ 11 % 8 ≡ 48 + w / 2 ^ 27 / 64 % 8 = omega arith in
    let b : 48 + w / 8 ^ 10 % 8 ≡ 48 + w / 2 ^ 27 / 8 % 8 = omega arith in
    let c : 48 + w / 8 ^ 9 % 8 ≡ 48 + w / 2 ^ 27 / 1 % 8 = omega arith in
    let d : 48 + w / 8 ^ 8 % 8 ≡ 48 + w / 2 ^ 18 / 64 % 8 = omega arith in
    let e : 48 + w / 8 ^ 7 % 8 ≡ 48 + w / 2 ^ 18 / 8 % 8 = omega arith in
    let f : 48 + w / 8 ^ 6 % 8 ≡ 48 + w / 2 ^ 18 / 1 % 8 = omega arith in
    let g : 48 + w / 8 ^ 5 % 8 ≡ 48 + w / 2 ^ 9 / 64 % 8 = omega arith in
    let h : 48 + w / 8 ^ 4 % 8 ≡ 48 + w / 2 ^ 9 / 8 % 8 = omega arith in
    let j : 48 + w / 8 ^ 3 % 8 ≡ 48 + w / 2 ^ 9 / 1 % 8 = omega arith in
    λ i. a i ∷ (b i ∷ (c i ∷ (d i ∷ (e i ∷ (f i ∷ (g i ∷ (h i ∷ (j i ∷ octal_text 3 w))))))))

half_by_threes : (h : ℕ) → half_text h ≡ octal_text 3 (h / 2 ^ 9) ++ octal_text 3 h
unfolding octal_text digits
half_by_threes h =
    let a : 48 + h / 8 ^ 5 % 8 ≡ 48 + h / 2 ^ 9 / 64 % 8 = omega arith in
    let b : 48 + h / 8 ^ 4 % 8 ≡ 48 + h / 2 ^ 9 / 8 % 8 = omega arith in
    let c : 48 + h / 8 ^ 3 % 8 ≡ 48 + h / 2 ^ 9 / 1 % 8 = omega arith in
    λ i. a i ∷ (b i ∷ (c i ∷ octal_text 3 h))

-- three digits and a space were written at an index; the digits come first
pub digits_put :
    (place v : ℕ) (old new triple : List ℕ)
    → ((count : ℕ) → count ≤ 4 → take (place + count) new ≡ take place old ++ take count triple)
    → triple ≡ with_space (octal_text 3 (v % 512))
    → take (place + 3) new ≡ take place old ++ octal_text 3 v
digits_put place v old new triple put is =
    put 3 (omega arith)
    ∙ ap (λ l. take place old ++ take 3 l) is
    ∙ ap (λ l. take place old ++ l) (take_at (octal_text 3 (v % 512)) (32 ∷ []) 3 (length_octal 3 (v % 512)) ∙ triple_low v)

pub space_put :
    (place v : ℕ) (old new triple : List ℕ)
    → ((count : ℕ) → count ≤ 4 → take (place + count) new ≡ take place old ++ take count triple)
    → triple ≡ with_space (octal_text 3 (v % 512))
    → take (place + 4) new ≡ take place old ++ with_space (octal_text 3 v)
space_put place v old new triple put is =
    let three = length_octal 3 (v % 512) in
    let four : length triple ≤ 4 = omega (arith, ap length is, length-append (octal_text 3 (v % 512)) (32 ∷ [])) in
    put 4 (omega arith)
    ∙ ap (λ l. take place old ++ l) (take_all 4 triple four ∙ is ∙ ap with_space (triple_low v))

joined_threes :
    (before a b c d : List ℕ)
    → (((before ++ a) ++ b) ++ c) ++ with_space d ≡ before ++ with_space (((a ++ b) ++ c) ++ d)
joined_threes before a b c d = simp append_assoc

-- three digits after three digits
pub word_put :
    (place w : ℕ) (start first second third last : List ℕ)
    → take (place + 3) first ≡ take place start ++ octal_text 3 (w / 2 ^ 27)
    → take (place + 3 + 3) second ≡ take (place + 3) first ++ octal_text 3 (w / 2 ^ 18)
    → take (place + 6 + 3) third ≡ take (place + 6) second ++ octal_text 3 (w / 2 ^ 9)
    → take (place + 9 + 4) last ≡ take (place + 9) third ++ with_space (octal_text 3 w)
    → take (place + 13) last ≡ take place start ++ with_space (word_text w)
word_put place w start first second third last a b c d =
    let six : place + 3 + 3 ≡ place + 6 = omega arith in
    let nine : place + 6 + 3 ≡ place + 9 = omega arith in
    let all : place + 9 + 4 ≡ place + 13 = omega arith in
    let b' : take (place + 6) second ≡ take (place + 3) first ++ octal_text 3 (w / 2 ^ 18) = ap (λ n. take n second) (sym six) ∙ b in
    let c' : take (place + 9) third ≡ take (place + 6) second ++ octal_text 3 (w / 2 ^ 9) = ap (λ n. take n third) (sym nine) ∙ c in
    ap (λ n. take n last) (sym all)
    ∙ d
    ∙ ap (λ l. l ++ with_space (octal_text 3 w)) (c' ∙ ap (λ l. l ++ octal_text 3 (w / 2 ^ 9)) (b' ∙ ap (λ l. l ++ octal_text 3 (w / 2 ^ 18)) a))
    ∙ joined_threes (take place start) (octal_text 3 (w / 2 ^ 27)) (octal_text 3 (w / 2 ^ 18)) (octal_text 3 (w / 2 ^ 9)) (octal_text 3 w)
    ∙ ap (λ l. take place start ++ with_space l) (sym (word_by_threes w))

joined_two : (before a b : List ℕ) → (before ++ a) ++ with_space b ≡ before ++ with_space (a ++ b)
joined_two before a b = simp append_assoc

pub half_put :
    (place h : ℕ) (start first last : List ℕ)
    → take (place + 3) first ≡ take place start ++ octal_text 3 (h / 2 ^ 9)
    → take (place + 3 + 4) last ≡ take (place + 3) first ++ with_space (octal_text 3 h)
    → take (place + 7) last ≡ take place start ++ with_space (half_text h)
half_put place h start first last a b =
    let all : place + 3 + 4 ≡ place + 7 = omega arith in
    ap (λ n. take n last) (sym all)
    ∙ b
    ∙ ap (λ l. l ++ with_space (octal_text 3 h)) a
    ∙ joined_two (take place start) (octal_text 3 (h / 2 ^ 9)) (octal_text 3 h)
    ∙ ap (λ l. take place start ++ with_space l) (sym (half_by_threes h))
