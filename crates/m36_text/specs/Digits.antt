-- Digits of numbers, and numbers written as texts.
use Rattle.std.specs.Prelude.{ℕ, zero, suc, ◌+◌, ◌-◌, ◌/◌, ◌%◌, ◌^◌, Bool, ◌&&◌, nat_le, List, []}
use Rattle.std.specs.Prelude.{◌∷◌, map}
use Rattle.std.specs.Int.Digits.{digits_of}

-- the last `places` digits of a number in a base, the most significant first
unfoldable pub digits : ℕ → ℕ → ℕ → List ℕ
digits base zero v = []
digits base (suc places) v = v / base ^ places % base ∷ digits base places v

-- the character of the digit 0
abbrev pub zero_character : ℕ
zero_character = 48

-- the character of a digit from 0 to 9
abbrev pub digit_character : ℕ → ℕ
digit_character digit = zero_character + digit

-- whether a character is one of the first `base` digits, for a base of at most ten
abbrev pub is_digit : ℕ → ℕ → Bool
is_digit base c = nat_le zero_character c && nat_le c (47 + base)

-- the value of a digit character
abbrev pub digit_of : ℕ → ℕ
digit_of c = c - zero_character

-- a number in octal, as its last `places` digits
unfoldable pub octal_text : ℕ → ℕ → List ℕ
octal_text places v = map digit_character (digits 8 places v)

-- the number of octal digits of a word
abbrev pub word_digits : ℕ
word_digits = 12

-- the number of octal digits of a half word, and so of a word number
abbrev pub half_digits : ℕ
half_digits = 6

-- the number of octal digits of a segment number
abbrev pub segment_digits : ℕ
segment_digits = 5

-- the number of octal digits of the address of a core word
abbrev pub core_word_digits : ℕ
core_word_digits = 8

-- a word in octal
abbrev pub word_text : ℕ → List ℕ
word_text w = octal_text word_digits w

-- a half word, or another number of 18 bits, in octal
abbrev pub half_text : ℕ → List ℕ
half_text h = octal_text half_digits h

-- a number in decimal, without leading zeros; the number zero is one digit
unfoldable pub decimal_text : ℕ → List ℕ
decimal_text zero = digit_character 0 ∷ []
decimal_text (suc v) = map digit_character (digits_of 10 (suc v))
