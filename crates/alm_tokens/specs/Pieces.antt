-- Texts divided into pieces at commas or at signs.
use Rattle.std.specs.Prelude.{ℕ, ◌+◌, Bool, ◌==◌, List, [], ◌∷◌, if◌then◌else◌}
use Rattle.alm_tokens.specs.declared.pieces.Separator.{Separator}
use Rattle.alm_tokens.specs.declared.pieces.Separator.TheVariants.{Comma, Sign}
use Rattle.alm_tokens.specs.declared.pieces.TextPiece.{TextPiece}
use Rattle.alm_tokens.specs.Tokens.{slice_of}
use Rattle.alm_tokens.specs.Bytes.{is_minus, is_sign}

-- whether a byte separates pieces
abbrev pub separates : Separator → ℕ → Bool
separates Comma b = b == 44
separates Sign b = is_sign b

-- the piece between two indexes, with its sign
abbrev pub piece_at : Bool → ℕ → ℕ → TextPiece
piece_at minus from at = record { span = record { from = from; to = at }; minus = minus }

-- The pieces of the rest of a text, whose next byte is at index `at`. The piece of that byte began
-- at index `from`, and `minus` says whether the byte before the piece is a minus.
unfoldable pub split_at : Separator → Bool → ℕ → ℕ → List ℕ → List TextPiece
split_at parter minus from at [] = piece_at minus from at ∷ []
split_at parter minus from at (b ∷ rest) =
    if separates parter b
    then piece_at minus from at ∷ split_at parter (is_minus b) (at + 1) (at + 1) rest
    else split_at parter minus from (at + 1) rest

-- the pieces of a text
unfoldable pub pieces_of : Separator → List ℕ → TextPiece → List TextPiece
pieces_of parter text whole =
    split_at parter whole.minus whole.span.from whole.span.from (slice_of text whole.span)
