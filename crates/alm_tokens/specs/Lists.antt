-- Operands that are lists: symbols or numbers, separated by commas.
use Rattle.std.specs.Prelude.{ℕ, Bool, false, List, Option, option_map}
use Rattle.std.specs.List.{find}
use Rattle.alm_tokens.specs.declared.span.Span.{Span}
use Rattle.alm_tokens.specs.declared.pieces.Separator.TheVariants.{Comma}
use Rattle.alm_tokens.specs.declared.pieces.TextPiece.{TextPiece}
use Rattle.alm_tokens.specs.declared.numerals.Numeral.{Numeral}
use Rattle.alm_tokens.specs.Tokens.{slice_of, is_symbol, is_over_number_limit}
use Rattle.alm_tokens.specs.Pieces.{pieces_of}
use Rattle.alm_tokens.specs.Numerals.{number_magnitude, has_form_of}

-- the members of an operand, which commas separate
unfoldable pub members : List ℕ → Span → List TextPiece
members text operand = pieces_of Comma text (record { span = operand; minus = false })

-- whether a member is a symbol
abbrev pub is_symbol_at : List ℕ → TextPiece → Bool
is_symbol_at text member = is_symbol (slice_of text member.span)

-- whether a member is a number of this notation
abbrev pub member_has_form_of : Numeral → List ℕ → TextPiece → Bool
member_has_form_of numeral text member = has_form_of numeral (slice_of text member.span)

-- whether a member is a number out of its range
abbrev pub is_out_of_range : Numeral → List ℕ → TextPiece → Bool
is_out_of_range numeral text member =
    is_over_number_limit (number_magnitude numeral (slice_of text member.span))

-- the index where the first number begins that is out of its range
unfoldable pub first_out_of_range_place : Numeral → List ℕ → List TextPiece → Option ℕ
first_out_of_range_place numeral text pieces =
    option_map (λ member. member.span.from) (find (is_out_of_range numeral text) pieces)
