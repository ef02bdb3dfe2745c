-- The operand of an instruction: its body, and optionally a comma and a modifier.
use Rattle.std.specs.Prelude.{ℕ, ◌+◌, Bool, ◌&&◌, ◌==◌, List, [], ◌∷◌, length, map, Option, Some}
use Rattle.std.specs.Prelude.{None, Result, is_some, unwrap_or, if◌then◌else◌}
use Rattle.std.specs.List.{list_all}
use Rattle.alm_tokens.specs.declared.span.Span.{Span}
use Rattle.alm_tokens.specs.declared.numerals.Numeral.TheVariants.{Small}
use Rattle.alm_tokens.specs.declared.pieces.TextPiece.{TextPiece}
use Rattle.alm_tokens.specs.declared.expression.Term.{Term}
use Rattle.alm_parse.specs.declared.body.Body.{Body}
use Rattle.alm_parse.specs.declared.body.Body.TheVariants.{Through, External, Plain}
use Rattle.alm_parse.specs.declared.args.Arg.{Arg}
use Rattle.alm_parse.specs.declared.args.Arg.TheVariants.{Operand}
use Rattle.alm_parse.specs.declared.refusal.ParseRefusal.{ParseRefusal}
use Rattle.alm_tokens.specs.Tokens.{slice_of, span_at}
use Rattle.alm_tokens.specs.Expressions.{is_term_at, term_of}
use Rattle.alm_tokens.specs.Lists.{first_out_of_range_place}
use Rattle.alm_tokens.specs.Modifiers.{pr_number, tag_of}
use Rattle.alm_parse.specs.Bodies.{place_of, body_of, has_valid_parts, body_pieces}
use Rattle.m36_text.specs.Results.{value_unless}
use Rattle.alm_parse.specs.Refusals.{operand_form_refusal}

-- the operand without its modifier, given the index of the comma
abbrev pub body_span : Span → Option ℕ → Span
body_span operand (Some comma) = span_at operand.from comma
body_span operand None = operand

-- the tag of the modifier after the comma; 0 without a comma, None if there is no such modifier
abbrev pub modifier_tag_after_comma : List ℕ → Span → Option ℕ → Option ℕ
modifier_tag_after_comma text operand (Some comma) =
    tag_of (slice_of text (span_at (comma + 1) operand.to))
modifier_tag_after_comma text operand None = Some 0

-- the entry of an external operand, if it has one
abbrev pub entry_if_any : List ℕ → Span → Option Span
entry_if_any text span = if length (slice_of text span) == 0 then None else Some span

-- the argument of an operand
abbrev pub operand_of : List ℕ → Body → List Term → ℕ → Arg
operand_of text (Through pr offset) expr tag =
    Operand (pr_number (slice_of text pr)) None None expr tag
operand_of text (External segment entry tail) expr tag =
    Operand None (Some segment) (entry_if_any text entry) expr tag
operand_of text (Plain whole) expr tag = Operand None None None expr tag

-- whether the parts, the terms and the modifier of an operand have their forms
abbrev pub is_operand : List ℕ → Body → List TextPiece → Option ℕ → Bool
is_operand text body pieces tag =
    has_valid_parts text body && list_all (is_term_at text) pieces && is_some tag

-- the argument of an operand, or its refusal
abbrev pub operand_of_parts :
    List ℕ → ℕ → Body → List TextPiece → Option ℕ → Result (List Arg) ParseRefusal
operand_of_parts text at body pieces tag =
    value_unless (operand_form_refusal text at (is_operand text body pieces tag)
    (first_out_of_range_place Small text pieces))
    (operand_of text body (map (term_of text) pieces) (unwrap_or tag 0) ∷ [])

-- the argument of an operand, or its refusal, given the index of the comma
abbrev pub operand_with : List ℕ → Span → Body → Option ℕ → Result (List Arg) ParseRefusal
operand_with text operand body comma =
    operand_of_parts text operand.from body (body_pieces text body)
    (modifier_tag_after_comma text operand comma)

-- the argument of the operand of an instruction, or its refusal
unfoldable pub parse_operand : List ℕ → Span → Result (List Arg) ParseRefusal
parse_operand text operand =
    let comma = place_of text operand 44 in
    operand_with text operand (body_of text (body_span operand comma)) comma
