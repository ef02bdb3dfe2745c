-- Parsing of numbers.
use Rattle.std.specs.Prelude.{ℕ, ◌^◌, ◌<◌, ◌≤◌, ◌≡◌, ◌≢◌, not, nat_le, if◌then◌else◌}
use Rattle.std.specs.Prelude.{List, [], ◌∷◌, map, length, slice_index, Option, Some, None, Result}
use Rattle.std.specs.Prelude.{Ok, Err}
use Rattle.std.specs.List.{position}
use Rattle.std.specs.Int.Digits.{number_from_digits}
use Rattle.m36_text.specs.Digits.{is_digit, digit_of, octal_text, decimal_text, zero_character}
use Rattle.m36_text.specs.declared.reading.NumberFault.{NumberFault}
use Rattle.m36_text.specs.declared.reading.NumberFault.TheVariants.{T1, T2}

-- the index of the first byte that is not a digit of this base; None if all bytes are digits
unfoldable pub first_non_digit : ℕ → List ℕ → Option ℕ
first_non_digit base text = position (λ byte. not (is_digit base byte)) text

-- the number that digit characters represent, the most significant first
unfoldable pub number_of : ℕ → List ℕ → ℕ
number_of base text = number_from_digits base (map digit_of text)

-- The result of parsing a text that is not empty, given the index of its first byte that is not a
-- digit and the number that its digits represent.
abbrev pub parsed_number : Option ℕ → ℕ → ℕ → Result ℕ NumberFault
parsed_number (Some place) v max = Err (T1 place)
parsed_number None v max = if nat_le v max then Ok v else Err T2

-- A text parsed as a number of at most `max`. T1 with the index of the first byte that is not a
-- digit, or 0 for an empty text. T2 if all bytes are digits and the number is over `max`.
unfoldable pub number_read : ℕ → List ℕ → ℕ → Result ℕ NumberFault
number_read base [] max = Err (T1 0)
number_read base (byte ∷ text) max =
    parsed_number (first_non_digit base (byte ∷ text)) (number_of base (byte ∷ text)) max

-- the index that T1 holds is at most `count`; T2 holds none
abbrev pub IndexIsWithin : ℕ → NumberFault → Type 0
IndexIsWithin count (T1 place) = place ≤ count
IndexIsWithin count T2 = Unit {0}

-- The octal text of a number, with enough places for it, is parsed as that number.
abbrev pub ReadsOctal : Type 0
ReadsOctal = (places v max : ℕ) → 1 ≤ places → v < 8 ^ places → v ≤ max
    → number_read 8 (octal_text places v) max ≡ Ok v

-- The decimal text of a number is parsed as that number.
abbrev pub ReadsDecimal : Type 0
ReadsDecimal = (v max : ℕ) → v ≤ max → number_read 10 (decimal_text v) max ≡ Ok v

-- An octal text has `places` digits.
abbrev pub OctalTextHasPlaces : Type 0
OctalTextHasPlaces = (places v : ℕ) → length (octal_text places v) ≡ places

-- The decimal text of a number other than zero does not begin with a zero.
abbrev pub DecimalTextHasNoLeadingZero : Type 0
DecimalTextHasNoLeadingZero = (v : ℕ) → 1 ≤ v → slice_index (decimal_text v) 0 ≢ zero_character
