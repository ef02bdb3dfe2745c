-- Numbers that a word can hold.
use Rattle.std.specs.Prelude.{ℕ, ◌≡◌, ◌≤◌, ◌-◌, ◌%◌, ◌^◌, Bool, true, false, ◌&&◌, List, [], ◌∷◌}
use Rattle.std.specs.Prelude.{pos, neg_ℤ, slice_index, Result, if◌then◌else◌}
use Rattle.m36_word.specs.Signed.{signed}
use Rattle.m36_text.specs.Reading.{number_read}
use Rattle.m36_text.specs.declared.reading.NumberFault.{NumberFault}
use Rattle.alm_tokens.specs.declared.numerals.Numeral.{Numeral}
use Rattle.alm_tokens.specs.declared.numerals.Numeral.TheVariants.{Decimal, Octal, Small}
use Rattle.alm_tokens.specs.Tokens.{has_digits, has_no_leading_zero, number_or_zero}
use Rattle.alm_tokens.specs.Tokens.{parsed_expression_number}
use Rattle.alm_tokens.specs.Bytes.{is_minus, is_sign}

-- whether a number begins with a minus
abbrev pub is_negative : List ℕ → Bool
is_negative bytes = is_minus (slice_index bytes 0)

-- a number without its sign
abbrev pub without_sign : List ℕ → List ℕ
without_sign [] = []
without_sign (b ∷ rest) = if is_sign b then rest else b ∷ rest

-- the greatest number of a word, 2^36 - 1
abbrev pub greatest_word : ℕ
greatest_word = 68719476735

-- The magnitude of a number. A decimal number is from -2^35 to 2^36 - 1, an octal one is below
-- 2^36.
abbrev pub number_magnitude : Numeral → List ℕ → Result ℕ NumberFault
number_magnitude Decimal bytes =
    if is_negative bytes
    then number_read 10 (without_sign bytes) 34359738368
    else number_read 10 (without_sign bytes) greatest_word
number_magnitude Octal bytes = number_read 8 bytes greatest_word
number_magnitude Small bytes = parsed_expression_number bytes

-- whether a number has no redundant leading zeros, if its notation forbids them
abbrev pub has_allowed_zeros : Numeral → List ℕ → Bool
has_allowed_zeros Decimal bytes = has_no_leading_zero (without_sign bytes)
has_allowed_zeros Octal bytes = true
has_allowed_zeros Small bytes = has_no_leading_zero bytes

-- whether a text is a number of this notation, of any size
abbrev pub has_form_of : Numeral → List ℕ → Bool
has_form_of numeral bytes =
    has_digits (number_magnitude numeral bytes) && has_allowed_zeros numeral bytes

-- whether a text has the form of a number in an expression, within the limit or not
unfoldable pub is_number : List ℕ → Bool
is_number bytes = has_form_of Small bytes

-- the word of a number; a negative one is in two's complement
abbrev pub signed_word : Bool → ℕ → ℕ
signed_word negative magnitude = (if negative then 2 ^ 36 - magnitude else magnitude) % 2 ^ 36

-- the word of a number in this notation; 0 if the text is no such number or it is out of range
abbrev pub number_word : Numeral → List ℕ → ℕ
number_word Decimal bytes =
    signed_word (is_negative bytes) (number_or_zero (number_magnitude Decimal bytes))
number_word Octal bytes = signed_word false (number_or_zero (number_magnitude Octal bytes))
number_word Small bytes = signed_word false (number_or_zero (number_magnitude Small bytes))

-- The word of a negative number from -2^35 on is this number in two's complement.
abbrev pub NegativesAreTwosComplement : Type 0
NegativesAreTwosComplement =
    (m : ℕ) → m ≤ 2 ^ 35 → signed (2 ^ 35) (signed_word true m) ≡ neg_ℤ (pos m)
