-- A pair of words as a number of 72 bits, and as a list of words.
use Rattle.std.specs.Prelude.{ℕ, ◌+◌, ◌*◌, ◌/◌, ◌%◌, ◌^◌, List, [], ◌∷◌}
use Rattle.m36_word.specs.declared.pair.Pair.{Pair}

-- the number of a pair, below 2^72; the even word is the more significant one
abbrev pub number_of : Pair → ℕ
number_of p = p.even * 2 ^ 36 + p.odd

-- the pair that holds the low 72 bits of a number
abbrev pub pair_of : ℕ → Pair
pair_of v = record { even = v / 2 ^ 36 % 2 ^ 36; odd = v % 2 ^ 36 }

-- the two words in the order of their addresses
abbrev pub pair_words : Pair → List ℕ
pair_words p = p.even ∷ p.odd ∷ []
