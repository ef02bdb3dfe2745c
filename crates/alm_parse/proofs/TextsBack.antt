-- The characters of words are those that were placed.
use Rattle.std.proofs.Common.{ℕ, ◌≡◌, ◌+◌, ◌*◌, ◌^◌, ◌<◌, List, [], ◌∷◌, length, take, refl, arith}
use Rattle.std.specs.Prelude.{All}
use Rattle.std.specs.List.{flat_map}
use Rattle.std.proofs.lemmas.List.Elements.{All-head, All-tail}
use Rattle.obj36_parts.specs.Halves.{quarter, quarters_of, quarter_words}
use Rattle.alm_parse.specs.Characters.{packed_words, UnpackingYieldsText}

-- ---- the quarters of a word of four

first_part : (a b c d : ℕ) → a < 2 ^ 9 → b < 2 ^ 9 → c < 2 ^ 9 → d < 2 ^ 9 → quarter (a * 2 ^ 27 + b * 2 ^ 18 + c * 2 ^ 9 + d) 0 ≡ a
unfolding quarter
first_part a b c d p q r s = omega arith

second_part : (a b c d : ℕ) → a < 2 ^ 9 → b < 2 ^ 9 → c < 2 ^ 9 → d < 2 ^ 9 → quarter (a * 2 ^ 27 + b * 2 ^ 18 + c * 2 ^ 9 + d) 1 ≡ b
unfolding quarter
second_part a b c d p q r s = omega arith

third_part : (a b c d : ℕ) → a < 2 ^ 9 → b < 2 ^ 9 → c < 2 ^ 9 → d < 2 ^ 9 → quarter (a * 2 ^ 27 + b * 2 ^ 18 + c * 2 ^ 9 + d) 2 ≡ c
unfolding quarter
third_part a b c d p q r s = omega arith

fourth_part : (a b c d : ℕ) → a < 2 ^ 9 → b < 2 ^ 9 → c < 2 ^ 9 → d < 2 ^ 9 → quarter (a * 2 ^ 27 + b * 2 ^ 18 + c * 2 ^ 9 + d) 3 ≡ d
unfolding quarter
fourth_part a b c d p q r s = omega arith

-- ---- texts

count_of : (bytes : List ℕ) → length (packed_words bytes) ≡ quarter_words (length bytes)
unfolding packed_words
count_of [] = refl
count_of (a ∷ []) = refl
count_of (a ∷ b ∷ []) = refl
count_of (a ∷ b ∷ c ∷ []) = refl
count_of (a ∷ b ∷ c ∷ d ∷ rest) = omega (arith, count_of rest)

abbrev AreCharacters : List ℕ → Type 0
AreCharacters bytes = All (λ c. c < 2 ^ 9) bytes

head_of : (c : ℕ) (rest : List ℕ) → AreCharacters (c ∷ rest) → c < 2 ^ 9
head_of c rest all = All-head (λ x. x < 2 ^ 9) c rest all

tail_of : (c : ℕ) (rest : List ℕ) → AreCharacters (c ∷ rest) → AreCharacters rest
tail_of c rest all = All-tail (λ x. x < 2 ^ 9) c rest all

text_of : (bytes : List ℕ) → AreCharacters bytes → take (length bytes) (flat_map quarters_of (packed_words bytes)) ≡ bytes
unfolding packed_words
text_of [] all = refl
text_of (a ∷ []) all =
    let pa = head_of a [] all in
    let none : 0 < 2 ^ 9 = omega arith in
    let first = first_part a 0 0 0 pa none none none in
    λ i. first i ∷ []
text_of (a ∷ b ∷ []) all =
    let behind = tail_of a (b ∷ []) all in
    let pa = head_of a (b ∷ []) all in
    let pb = head_of b [] behind in
    let none : 0 < 2 ^ 9 = omega arith in
    let first = first_part a b 0 0 pa pb none none in
    let second = second_part a b 0 0 pa pb none none in
    λ i. first i ∷ second i ∷ []
text_of (a ∷ b ∷ c ∷ []) all =
    let behind = tail_of a (b ∷ c ∷ []) all in
    let last = tail_of b (c ∷ []) behind in
    let pa = head_of a (b ∷ c ∷ []) all in
    let pb = head_of b (c ∷ []) behind in
    let pc = head_of c [] last in
    let none : 0 < 2 ^ 9 = omega arith in
    let first = first_part a b c 0 pa pb pc none in
    let second = second_part a b c 0 pa pb pc none in
    let third = third_part a b c 0 pa pb pc none in
    λ i. first i ∷ second i ∷ third i ∷ []
text_of (a ∷ b ∷ c ∷ d ∷ rest) all =
    let three = tail_of a (b ∷ c ∷ d ∷ rest) all in
    let two_args = tail_of b (c ∷ d ∷ rest) three in
    let one_arg = tail_of c (d ∷ rest) two_args in
    let pa = head_of a (b ∷ c ∷ d ∷ rest) all in
    let pb = head_of b (c ∷ d ∷ rest) three in
    let pc = head_of c (d ∷ rest) two_args in
    let pd = head_of d rest one_arg in
    let first = first_part a b c d pa pb pc pd in
    let second = second_part a b c d pa pb pc pd in
    let third = third_part a b c d pa pb pc pd in
    let fourth = fourth_part a b c d pa pb pc pd in
    let others = text_of rest (tail_of d rest one_arg) in
    λ i. first i ∷ second i ∷ third i ∷ fourth i ∷ others i

pub texts_back : UnpackingYieldsText
texts_back = record { count = count_of; text = text_of }
