-- Characters between two delimiters, packed four in a word.
use Rattle.std.specs.Prelude.{ℕ, ◌≡◌, ◌+◌, ◌^◌, ◌<◌, Bool, true, false, not, List, [], ◌∷◌, length}
use Rattle.std.specs.Prelude.{take, slice_index, All, Option, Some, None, Result, Ok, Err}
use Rattle.std.specs.Prelude.{if◌then◌else◌}
use Rattle.std.specs.List.{find, flat_map}
use Rattle.obj36_parts.specs.Halves.{of_quarters, quarters_of, quarter_words}
use Rattle.alm_tokens.specs.declared.span.Span.{Span}
use Rattle.alm_parse.specs.declared.args.Arg.{Arg}
use Rattle.alm_parse.specs.declared.args.Arg.TheVariants.{Chars}
use Rattle.alm_parse.specs.declared.refusal.ParseCode.TheVariants.{E1, E2}
use Rattle.alm_parse.specs.declared.refusal.ParseRefusal.{ParseRefusal}
use Rattle.alm_tokens.specs.Bytes.{is_blank, begins_comment, is_placeable_character}
use Rattle.alm_tokens.specs.Tokens.{slice_of, span_at, first_in}
use Rattle.alm_parse.specs.Bodies.{place_of}

-- The words of characters, four in each word with nine bits each. Zeros follow the last character.
unfoldable pub packed_words : List ℕ → List ℕ
packed_words [] = []
packed_words (a ∷ []) = of_quarters a 0 0 0 ∷ []
packed_words (a ∷ b ∷ []) = of_quarters a b 0 0 ∷ []
packed_words (a ∷ b ∷ c ∷ []) = of_quarters a b c 0 ∷ []
packed_words (a ∷ b ∷ c ∷ d ∷ rest) = of_quarters a b c d ∷ packed_words rest

-- The quarters of the words of placed characters are these characters in order.
pub record UnpackingYieldsText : Type 0 where
  pub count : (bytes : List ℕ) → length (packed_words bytes) ≡ quarter_words (length bytes)
  pub text : (bytes : List ℕ) → All (λ c. c < 2 ^ 9) bytes
      → take (length bytes) (flat_map quarters_of (packed_words bytes)) ≡ bytes

-- the word of the first four characters, or of all if there are fewer
unfoldable pub first_word : List ℕ → ℕ
first_word bytes =
    of_quarters (slice_index bytes 0) (slice_index bytes 1) (slice_index bytes 2)
    (slice_index bytes 3)

-- whether the first byte that is not blank begins a comment, or there is no such byte
abbrev pub is_end_or_comment : Option ℕ → Bool
is_end_or_comment None = true
is_end_or_comment (Some b) = begins_comment b

-- whether a text has only blanks, and perhaps a comment, as it must after the closing delimiter
abbrev pub is_blank_or_comment : List ℕ → Bool
is_blank_or_comment bytes = is_end_or_comment (find (λ b. not (is_blank b)) bytes)

-- the index of the first byte that cannot be placed
unfoldable pub first_bad_place : List ℕ → Span → Option ℕ
first_bad_place text span = first_in (λ b. not (is_placeable_character b)) text span

-- the characters of a span, or E1 at the first byte that cannot be placed
abbrev pub characters_unless_bad : List ℕ → Span → Option ℕ → Result (List Arg) ParseRefusal
characters_unless_bad text span (Some place) = Err (record { place = place; code = E1 })
characters_unless_bad text span None = Ok (Chars (packed_words (slice_of text span)) ∷ [])

-- The characters in `span`, or E2 at the operand `rest` unless only blanks or a comment are after
-- the closing delimiter, which the last argument says.
abbrev pub characters_if_ended : List ℕ → Span → Span → Bool → Result (List Arg) ParseRefusal
characters_if_ended text rest span true =
    characters_unless_bad text span (first_bad_place text span)
characters_if_ended text rest span false = Err (record { place = rest.from; code = E2 })

-- The characters, given the index of the closing delimiter, or E2 at the operand `rest` if there is
-- none.
abbrev pub characters_if_closed : List ℕ → Span → Option ℕ → Result (List Arg) ParseRefusal
characters_if_closed text rest (Some close) =
    characters_if_ended text rest (span_at (rest.from + 1) close)
    (is_blank_or_comment (slice_of text (span_at (close + 1) rest.to)))
characters_if_closed text rest None = Err (record { place = rest.from; code = E2 })

-- The characters between two bytes that are `delimiter`, the first of which begins the operand, or
-- E1 if this byte cannot be a delimiter.
abbrev pub characters_from : List ℕ → Span → ℕ → Result (List Arg) ParseRefusal
characters_from text rest delimiter =
    if is_placeable_character delimiter
    then characters_if_closed text rest (place_of text (span_at (rest.from + 1) rest.to) delimiter)
    else Err (record { place = rest.from; code = E1 })

-- The argument of an `aci` line, or its refusal. The operand begins with the delimiter.
unfoldable pub parse_characters : List ℕ → Span → Result (List Arg) ParseRefusal
parse_characters text rest = characters_from text rest (slice_index text rest.from)
