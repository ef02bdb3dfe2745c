-- Numbers in lines that are parsed.
use Rattle.std.specs.Prelude.{ℕ, ◌-◌, ◌^◌, Bool, ◌||◌, not, ◌==◌, nat_le, if◌then◌else◌, List}
use Rattle.std.specs.Prelude.{length, slice_index, Option, Some, None}
use Rattle.std.specs.Result.{result_ok}
use Rattle.m36_text.specs.Digits.{zero_character, word_digits, half_digits, segment_digits}
use Rattle.m36_text.specs.Digits.{core_word_digits}
use Rattle.m36_text.specs.Reading.{number_read}

-- a text as a number, if it has exactly `places` characters and all are octal digits
unfoldable pub octal_in : ℕ → List ℕ → Option ℕ
octal_in places text =
    if length text == places then result_ok (number_read 8 text (8 ^ places - 1)) else None

-- a number with exactly the digits of a word
abbrev pub octal_word_in : List ℕ → Option ℕ
octal_word_in = octal_in word_digits

-- a number with exactly the digits of a segment number
abbrev pub segment_number_in : List ℕ → Option ℕ
segment_number_in = octal_in segment_digits

-- a number with exactly the digits of the number of a word in a segment
abbrev pub word_number_in : List ℕ → Option ℕ
word_number_in = octal_in half_digits

-- a number with exactly the digits of the address of a core word
abbrev pub core_address_in : List ℕ → Option ℕ
core_address_in = octal_in core_word_digits

-- a number, if it is at least `least`
abbrev pub at_least : ℕ → Option ℕ → Option ℕ
at_least least None = None
at_least least (Some n) = if nat_le least n then Some n else None

-- a text as a number, if it has decimal digits alone, of any number, and is from `least` to `most`
unfoldable pub decimal_in : ℕ → ℕ → List ℕ → Option ℕ
decimal_in least most text = at_least least (result_ok (number_read 10 text most))

-- as `decimal_in`, with at most `digits` digits
unfoldable pub short_decimal_in : ℕ → ℕ → ℕ → List ℕ → Option ℕ
short_decimal_in digits least most text =
    if nat_le (length text) digits then decimal_in least most text else None

-- a text of one character, or one that does not begin with 0
abbrev pub has_no_leading_zero : List ℕ → Bool
has_no_leading_zero text = (length text == 1) || not (slice_index text 0 == zero_character)

-- as `decimal_in`, without a redundant leading zero
unfoldable pub plain_decimal_in : ℕ → ℕ → List ℕ → Option ℕ
plain_decimal_in least most text =
    if has_no_leading_zero text then decimal_in least most text else None
