-- Words as halves of 18 bits, as quarters of nine bits, and their bits 3 to 17.
use Rattle.std.specs.Prelude.{ℕ, zero, suc, ◌+◌, ◌*◌, ◌/◌, ◌%◌, ◌^◌, List, [], ◌∷◌}

-- bits 0 to 17 of a word
unfoldable pub left : ℕ → ℕ
left w = w / 2 ^ 18

-- bits 18 to 35
unfoldable pub right : ℕ → ℕ
right w = w % 2 ^ 18

-- bits 3 to 17, which can hold the offset after the number of a pointer register
unfoldable pub bits_3_to_17 : ℕ → ℕ
bits_3_to_17 w = left w % 2 ^ 15

-- the word with these halves; of each number the low 18 bits are used
unfoldable pub word_with_halves : ℕ → ℕ → ℕ
word_with_halves l r = l % 2 ^ 18 * 2 ^ 18 + r % 2 ^ 18

-- quarter 0 to 3 of a word, nine bits each; quarter 0 is the leftmost
unfoldable pub quarter : ℕ → ℕ → ℕ
quarter w zero = w / 2 ^ 27
quarter w (suc zero) = w / 2 ^ 18 % 2 ^ 9
quarter w (suc (suc zero)) = w / 2 ^ 9 % 2 ^ 9
quarter w (suc (suc (suc n))) = w % 2 ^ 9

-- the word of four quarters, each below 2^9
abbrev pub of_quarters : ℕ → ℕ → ℕ → ℕ → ℕ
of_quarters a b c d = a * 2 ^ 27 + b * 2 ^ 18 + c * 2 ^ 9 + d

-- the four quarters of a word, in order
abbrev pub quarters_of : ℕ → List ℕ
quarters_of w = quarter w 0 ∷ quarter w 1 ∷ quarter w 2 ∷ quarter w 3 ∷ []

-- the number of words for `count` quarters, four in each
abbrev pub quarter_words : ℕ → ℕ
quarter_words count = (count + 3) / 4
