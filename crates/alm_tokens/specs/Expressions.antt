-- Expressions: terms joined by + and -. The first term may follow a minus.
use Rattle.std.specs.Prelude.{ℕ, ◌+◌, ◌≤◌, ⊤, Bool, not, ◌||◌, List, codes}
use Rattle.std.specs.Prelude.{if◌then◌else◌}
use Rattle.alm_tokens.specs.declared.pieces.Separator.TheVariants.{Sign}
use Rattle.alm_tokens.specs.declared.pieces.TextPiece.{TextPiece}
use Rattle.alm_tokens.specs.declared.expression.Atom.{Atom}
use Rattle.alm_tokens.specs.declared.expression.Atom.TheVariants.{Number, Symbol, Here}
use Rattle.alm_tokens.specs.declared.expression.Term.{Term}
use Rattle.alm_tokens.specs.Tokens.{slice_of, is_text, is_symbol, number_or_zero}
use Rattle.alm_tokens.specs.Tokens.{parsed_expression_number}
use Rattle.alm_tokens.specs.Tokens.{greatest_number}
use Rattle.alm_tokens.specs.Numerals.{is_number, is_negative}
use Rattle.alm_tokens.specs.Pieces.{pieces_of, piece_at}

-- whether a term is `*`, the current place
abbrev pub is_current_place : List ℕ → Bool
is_current_place bytes = is_text (codes "*") bytes

-- whether a text is a term: a number, a symbol, or `*`
unfoldable pub is_term : List ℕ → Bool
is_term bytes = is_current_place bytes || is_number bytes || is_symbol bytes

-- whether a piece is a term
abbrev pub is_term_at : List ℕ → TextPiece → Bool
is_term_at text piece = is_term (slice_of text piece.span)

-- the piece of a whole expression without the minus at its beginning, which negates the first term
unfoldable pub without_first_minus : List ℕ → TextPiece → TextPiece
without_first_minus text whole =
    if is_negative (slice_of text whole.span)
    then piece_at (not whole.minus) (whole.span.from + 1) whole.span.to
    else whole

-- the terms of an expression, as pieces
unfoldable pub expression_pieces : List ℕ → TextPiece → List TextPiece
expression_pieces text whole = pieces_of Sign text (without_first_minus text whole)

-- the kind of a term, with its number if it is one
unfoldable pub atom_of : List ℕ → Atom
atom_of bytes =
    if is_current_place bytes
    then Here
    else (if is_number bytes then Number (number_or_zero (parsed_expression_number bytes)) else
    Symbol)

-- the term in a piece, with its sign
abbrev pub term_of : List ℕ → TextPiece → Term
term_of text piece =
    record { what = atom_of (slice_of text piece.span); span = piece.span; minus = piece.minus }

-- A term that is a number is within the limit.
abbrev pub IsSmall : Atom → Type 0
IsSmall (Number n) = n ≤ greatest_number
IsSmall Symbol = ⊤
IsSmall Here = ⊤
