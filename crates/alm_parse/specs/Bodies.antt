-- The operand of an instruction, up to its modifier: a pointer register, a bar and an expression;
-- or a segment, a dollar sign, optionally an entry, and optionally a sign and an expression; or an
-- expression.
use Rattle.std.specs.Prelude.{ℕ, ◌+◌, Bool, true, false, not, ◌&&◌, ◌||◌, ◌==◌, List, [], length}
use Rattle.std.specs.Prelude.{slice_index, Option, Some, None, is_some}
use Rattle.std.specs.Prelude.{if◌then◌else◌}
use Rattle.std.specs.List.{position}
use Rattle.alm_tokens.specs.declared.span.Span.{Span}
use Rattle.alm_tokens.specs.declared.pieces.TextPiece.{TextPiece}
use Rattle.alm_parse.specs.declared.body.Body.{Body}
use Rattle.alm_parse.specs.declared.body.Body.TheVariants.{Through, External, Plain}
use Rattle.obj36_parts.specs.declared.section.Section.{Section}
use Rattle.obj36_parts.specs.declared.section.Section.TheVariants.{Text, Linkage, Static}
use Rattle.obj36_parts.specs.Sections.{starred_section_name}
use Rattle.m36_text.specs.Texts.{is_name_character}
use Rattle.alm_tokens.specs.Tokens.{span_at, slice_of, is_text, is_symbol, first_in}
use Rattle.alm_tokens.specs.Pieces.{piece_at}
use Rattle.alm_tokens.specs.Numerals.{is_negative}
use Rattle.alm_tokens.specs.Expressions.{expression_pieces}
use Rattle.alm_tokens.specs.Modifiers.{pr_number}
use Rattle.alm_tokens.specs.Bytes.{is_sign}

-- the index in the text of the first occurrence of a byte in a span
unfoldable pub place_of : List ℕ → Span → ℕ → Option ℕ
place_of text span byte = first_in (λ b. b == byte) text span

-- the index in the text after the first bytes of a span, given the index in the span of the byte
-- that ends them; without one it is the end of the span
abbrev pub end_of_match : Option ℕ → ℕ → ℕ → ℕ
end_of_match (Some i) from count = from + i
end_of_match None from count = from + count

-- the index after the bytes at the beginning of a span that can be part of a symbol
unfoldable pub symbol_end : List ℕ → Span → ℕ
symbol_end text span =
    end_of_match (position (λ b. not (is_name_character b)) (slice_of text span)) span.from
    (length (slice_of text span))

-- An external operand: the segment up to the dollar sign, the entry after it up to `end`, and the
-- rest.
abbrev pub external_operand_to : Span → ℕ → ℕ → Body
external_operand_to whole dollar end =
    External (span_at whole.from dollar) (span_at (dollar + 1) end) (span_at end whole.to)

-- an external operand, given the index of the dollar sign
abbrev pub external_operand : List ℕ → Span → ℕ → Body
external_operand text whole dollar =
    external_operand_to whole dollar (symbol_end text (span_at (dollar + 1) whole.to))

-- an operand without a bar, given the index of its dollar sign, if it has one
abbrev pub body_without_bar : List ℕ → Span → Option ℕ → Body
body_without_bar text whole (Some dollar) = external_operand text whole dollar
body_without_bar text whole None = Plain whole

-- an operand, given the index of its bar, if it has one
abbrev pub body_with_bar : List ℕ → Span → Option ℕ → Body
body_with_bar text whole (Some bar) = Through (span_at whole.from bar) (span_at (bar + 1) whole.to)
body_with_bar text whole None = body_without_bar text whole (place_of text whole 36)

-- the parts of an operand without its modifier
unfoldable pub body_of : List ℕ → Span → Body
body_of text whole = body_with_bar text whole (place_of text whole 124)

-- the section of a name, given the names of sections; only text, linkage and static are looked for
abbrev pub section_with_name : (Section → List ℕ) → List ℕ → Option Section
section_with_name named name =
    if is_text (named Text) name
    then Some Text
    else (if is_text (named Linkage) name
    then Some Linkage
    else (if is_text (named Static) name then Some Static else None))

-- the section of the own object that a segment names
unfoldable pub own_section : List ℕ → Option Section
own_section name = section_with_name starred_section_name name

-- whether a text can be the segment of an external operand
abbrev pub is_segment_text : List ℕ → Bool
is_segment_text bytes = is_symbol bytes || is_some (own_section bytes)

-- whether a text can be the entry of an external operand: a symbol, or nothing
abbrev pub is_entry_text : List ℕ → Bool
is_entry_text bytes = (length bytes == 0) || is_symbol bytes

-- whether a text can follow the entry of an external operand: a sign and more, or nothing
abbrev pub is_text_after_entry : List ℕ → Bool
is_text_after_entry bytes = (length bytes == 0) || is_sign (slice_index bytes 0)

-- whether the parts of an operand have their forms, except for expressions
abbrev pub has_valid_parts : List ℕ → Body → Bool
has_valid_parts text (Through pr offset) = is_some (pr_number (slice_of text pr))
has_valid_parts text (External segment entry tail) =
    is_segment_text (slice_of text segment) && is_entry_text (slice_of text entry)
    && is_text_after_entry (slice_of text tail)
has_valid_parts text (Plain whole) = true

-- the terms after an external name, whose sign belongs to the first of them
unfoldable pub tail_pieces : List ℕ → Span → List TextPiece
tail_pieces text tail =
    if length (slice_of text tail) == 0
    then []
    else expression_pieces text
    (piece_at (is_negative (slice_of text tail)) (tail.from + 1) tail.to)

-- the terms of the expression of an operand
abbrev pub body_pieces : List ℕ → Body → List TextPiece
body_pieces text (Through pr offset) =
    expression_pieces text (record { span = offset; minus = false })
body_pieces text (External segment entry tail) = tail_pieces text tail
body_pieces text (Plain whole) = expression_pieces text (record { span = whole; minus = false })
