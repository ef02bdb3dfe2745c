-- Tokens: the bytes of a span, symbols, and numbers.
use Rattle.std.specs.Prelude.{ℕ, ◌+◌, ◌-◌, Bool, true, false, ◌&&◌, List, take, drop, slice_index}
use Rattle.std.specs.Prelude.{Option, option_map, Result, Ok, Err}
use Rattle.std.specs.List.{position}
use Rattle.std.specs.Result.{result_unwrap_or}
use Rattle.m36_text.specs.Reading.{number_read}
use Rattle.m36_text.specs.declared.reading.NumberFault.{NumberFault}
use Rattle.m36_text.specs.declared.reading.NumberFault.TheVariants.{T1, T2}
pub use Rattle.m36_text.specs.Texts.{is_text}
use Rattle.m36_text.specs.Texts.{is_name}
pub use Rattle.m36_text.specs.Numbers.{has_no_leading_zero}
use Rattle.alm_tokens.specs.declared.span.Span.{Span}
use Rattle.alm_tokens.specs.Bytes.{begins_symbol}

-- the span between two indexes
abbrev pub span_at : ℕ → ℕ → Span
span_at from to = record { from = from; to = to }

-- the bytes of a span of a text
unfoldable pub slice_of : List ℕ → Span → List ℕ
slice_of text span = take (span.to - span.from) (drop span.from text)

-- the index of the first byte in a span that passes a test
abbrev pub first_in : (ℕ → Bool) → List ℕ → Span → Option ℕ
first_in is_so text span = option_map (λ i. span.from + i) (position is_so (slice_of text span))

-- whether a text is a symbol: a name that begins with a letter or _
unfoldable pub is_symbol : List ℕ → Bool
is_symbol bytes = is_name bytes && begins_symbol (slice_index bytes 0)

-- whether a text has only digits, by the result of parsing it as a number
abbrev pub has_digits : Result ℕ NumberFault → Bool
has_digits (Ok v) = true
has_digits (Err T2) = true
has_digits (Err (T1 place)) = false

-- whether a text is a number over the limit, by the result of parsing it as a number
abbrev pub is_over_number_limit : Result ℕ NumberFault → Bool
is_over_number_limit (Ok v) = false
is_over_number_limit (Err T2) = true
is_over_number_limit (Err (T1 place)) = false

-- the number that parsing a text as a number yields; 0 if it yields none
abbrev pub number_or_zero : Result ℕ NumberFault → ℕ
number_or_zero read = result_unwrap_or read 0

-- the greatest number in an expression, and of the words of `bss`
abbrev pub greatest_number : ℕ
greatest_number = 262143

-- a text parsed as a number of an expression, or as the number of words of `bss`
abbrev pub parsed_expression_number : List ℕ → Result ℕ NumberFault
parsed_expression_number bytes = number_read 10 bytes greatest_number
