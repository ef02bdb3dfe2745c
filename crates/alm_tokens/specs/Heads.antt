-- The labels, the operation and the operand of a line. Blanks and tabs separate tokens, a colon
-- ends a label, and a quotation mark begins a comment.
use Rattle.std.specs.Prelude.{ℕ, ◌+◌, ◌<◌, ◌≤◌, Bool, not, ◌==◌, List, [], ◌∷◌, ◌++◌, slice_index}
use Rattle.std.specs.Prelude.{Option, Some, None, if◌then◌else◌}
use Rattle.alm_tokens.specs.declared.span.Span.{Span}
use Rattle.alm_tokens.specs.declared.head.TokenStep.{TokenStep}
use Rattle.alm_tokens.specs.declared.head.TokenStep.TheVariants.{Label, Skip, Stop, Go}
use Rattle.alm_tokens.specs.declared.head.Head.{Head}
use Rattle.alm_tokens.specs.Bytes.{is_blank, begins_comment}
use Rattle.alm_tokens.specs.Tokens.{slice_of, span_at, first_in}

-- The effect of a byte on the tokens before the operand. `fresh` is true if the token has no byte
-- yet.
abbrev pub token_step : ℕ → Bool → TokenStep
token_step b fresh =
    if b == 58
    then Label
    else (if is_blank b
    then (if fresh then Skip else Stop)
    else (if begins_comment b then Stop else Go))

-- the token between two indexes, if it has a byte
abbrev pub token : ℕ → ℕ → Option Span
token from to = if from == to then None else Some (span_at from to)

-- the head of a line whose operation begins at `from` and ends before `at`
abbrev pub head_at : List Span → ℕ → ℕ → Head
head_at marks from at = record { labels = marks; op = token from at }

-- the head after a label, after a blank, at the end of the tokens, and after a byte of a token
abbrev pub head_for_step : TokenStep → Head → Head → Head → Head → Head
head_for_step Label label skip stop go = label
head_for_step Skip label skip stop go = skip
head_for_step Stop label skip stop go = stop
head_for_step Go label skip stop go = go

-- The head of the rest of a line, given the labels so far, the index where the token begins, and
-- the index of the next byte.
unfoldable pub head_from : List Span → ℕ → ℕ → List ℕ → Head
head_from marks from at [] = head_at marks from at
head_from marks from at (b ∷ rest) =
    head_for_step (token_step b (from == at))
    (head_from (marks ++ span_at from at ∷ []) (at + 1) (at + 1) rest)
    (head_from marks (at + 1) (at + 1) rest) (head_at marks from at)
    (head_from marks from (at + 1) rest)

-- the labels and the operation of a line
unfoldable pub head_of : List ℕ → Span → Head
head_of text line = head_from [] line.from line.from (slice_of text line)

-- the index of the first byte that is not blank, where the operand begins
unfoldable pub operand_start : List ℕ → Span → Option ℕ
operand_start text rest = first_in (λ b. not (is_blank b)) text rest

-- The index after the operand, which ends after the last byte that is not blank and is before the
-- comment. `end` is the index after the last such byte so far, and `at` that of the next byte.
unfoldable pub operand_end_from : ℕ → ℕ → List ℕ → ℕ
operand_end_from end at [] = end
operand_end_from end at (b ∷ rest) =
    if begins_comment b then end else operand_end_from (if is_blank b then end else at + 1)
    (at + 1) rest

-- the index after the operand, given the text after the operation
abbrev pub operand_end : List ℕ → Span → ℕ
operand_end text rest = operand_end_from rest.from rest.from (slice_of text rest)

-- the operand, given the index where it begins, if there is one
abbrev pub operand_from : List ℕ → Span → Option ℕ → Option Span
operand_from text rest None = None
operand_from text rest (Some from) = token from (operand_end text (span_at from rest.to))

-- the operand in the text after the operation, if there is one
unfoldable pub operand_in : List ℕ → Span → Option Span
operand_in text rest = operand_from text rest (operand_start text rest)

-- The operand of delimited characters, given the index where it begins, if there is one. It extends
-- to the end of the line, since a quotation mark in it does not begin a comment.
abbrev pub delimited_from : Span → Option ℕ → Option Span
delimited_from rest None = None
delimited_from rest (Some from) = Some (span_at from rest.to)

-- The operand of delimited characters in the text after the operation, if there is one. There is
-- none if a comment begins directly after the operation.
unfoldable pub delimited_operand : List ℕ → Span → Option Span
delimited_operand text rest =
    if begins_comment (slice_index (slice_of text rest) 0)
    then None
    else delimited_from rest (operand_start text rest)

-- The span of a label, which ends before a byte of the text. The text has `count` bytes.
pub record IsLabelSpan (count : ℕ) (span : Span) : Type 0 where
  pub ordered : span.from ≤ span.to
  pub inside : span.to < count

-- The span of an operation, which has at least one byte. The text has `count` bytes.
pub record IsTokenSpan (count : ℕ) (span : Span) : Type 0 where
  pub some : span.from < span.to
  pub inside : span.to ≤ count
