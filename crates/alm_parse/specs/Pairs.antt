-- Operands of two members with a comma between them, and names of sections.
use Rattle.std.specs.Prelude.{ℕ, Bool, ◌&&◌, List, [], ◌∷◌, map}
use Rattle.std.specs.Prelude.{Option, None, is_some, Result, Err}
use Rattle.std.specs.List.{list_all}
use Rattle.std.specs.Option.{option_or}
use Rattle.obj36_parts.specs.declared.section.Section.{Section}
use Rattle.obj36_parts.specs.Sections.{section_name}
use Rattle.alm_tokens.specs.declared.span.Span.{Span}
use Rattle.alm_tokens.specs.declared.pieces.TextPiece.{TextPiece}
use Rattle.alm_parse.specs.declared.args.Arg.{Arg}
use Rattle.alm_parse.specs.declared.args.Arg.TheVariants.{Symbol, Plain}
use Rattle.alm_tokens.specs.declared.numerals.Numeral.TheVariants.{Small}
use Rattle.alm_parse.specs.declared.refusal.ParseCode.TheVariants.{E2}
use Rattle.alm_parse.specs.declared.refusal.ParseRefusal.{ParseRefusal}
use Rattle.alm_tokens.specs.Tokens.{slice_of}
use Rattle.alm_tokens.specs.Expressions.{is_term_at, expression_pieces, term_of}
use Rattle.alm_parse.specs.Members.{number_arg}
use Rattle.alm_tokens.specs.Lists.{members, is_symbol_at, member_has_form_of}
use Rattle.alm_tokens.specs.Lists.{first_out_of_range_place}
use Rattle.m36_text.specs.Results.{value_unless}
use Rattle.alm_parse.specs.Refusals.{refusal_at_token, operand_form_refusal}
use Rattle.alm_parse.specs.Bodies.{section_with_name}

-- The arguments of an operand of two members, parsed by `read`. An operand with fewer or more
-- members is refused at the index `at` of the operand.
abbrev pub parse_two_members :
    (TextPiece → TextPiece → Result (List Arg) ParseRefusal) → List ℕ → ℕ → List TextPiece
    → Result (List Arg) ParseRefusal
parse_two_members read text at (first ∷ second ∷ []) = read first second
parse_two_members read text at _ = Err (refusal_at_token text at E2)

-- the arguments of an `equ` line, from its two members
abbrev pub value_of_terms : List ℕ → ℕ → TextPiece → List TextPiece → Result (List Arg) ParseRefusal
value_of_terms text at name pieces =
    value_unless
    (operand_form_refusal text at (is_symbol_at text name && list_all (is_term_at text) pieces)
    (first_out_of_range_place Small text pieces))
    (Symbol name.span ∷ Plain (map (term_of text) pieces) ∷ [])

-- the arguments of an `equ` line, from the members of its operand
abbrev pub value_of_members : List ℕ → ℕ → List TextPiece → Result (List Arg) ParseRefusal
value_of_members text at pieces =
    parse_two_members (λ name value. value_of_terms text at name (expression_pieces text value))
    text at pieces

-- the arguments of an `equ` line, or its refusal
unfoldable pub parse_value : List ℕ → Span → Result (List Arg) ParseRefusal
parse_value text operand = value_of_members text operand.from (members text operand)

-- the arguments of a `zero` line, from the terms of its two expressions
abbrev pub halves_of_terms :
    List ℕ → ℕ → List TextPiece → List TextPiece → Result (List Arg) ParseRefusal
halves_of_terms text at left right =
    value_unless
    (operand_form_refusal text at (list_all (is_term_at text) left && list_all (is_term_at text)
    right)
    (option_or (first_out_of_range_place Small text left)
    (first_out_of_range_place Small text right)))
    (Plain (map (term_of text) left) ∷ Plain (map (term_of text) right) ∷ [])

-- the arguments of a `zero` line, from the members of its operand
abbrev pub halves_of_members : List ℕ → ℕ → List TextPiece → Result (List Arg) ParseRefusal
halves_of_members text at pieces =
    parse_two_members
    (λ left right. halves_of_terms text at (expression_pieces text left)
    (expression_pieces text right))
    text at pieces

-- the arguments of a `zero` line, or its refusal
unfoldable pub parse_halves : List ℕ → Span → Result (List Arg) ParseRefusal
parse_halves text operand = halves_of_members text operand.from (members text operand)

-- the arguments of a `bss` line, from its two members
abbrev pub block_of_pair : List ℕ → ℕ → TextPiece → TextPiece → Result (List Arg) ParseRefusal
block_of_pair text at name count =
    value_unless
    (operand_form_refusal text at (is_symbol_at text name && member_has_form_of Small text count)
    (first_out_of_range_place Small text (count ∷ [])))
    (Symbol name.span ∷ number_arg Small text count ∷ [])

-- the arguments of a `bss` line, from the members of its operand
abbrev pub block_of_members : List ℕ → ℕ → List TextPiece → Result (List Arg) ParseRefusal
block_of_members text at pieces = parse_two_members (block_of_pair text at) text at pieces

-- the arguments of a `bss` line, or its refusal
unfoldable pub parse_block : List ℕ → Span → Result (List Arg) ParseRefusal
parse_block text operand = block_of_members text operand.from (members text operand)

-- the section that is selected by a name after `use`
unfoldable pub used_section : List ℕ → Option Section
used_section name = section_with_name section_name name

-- whether a name selects a section
abbrev pub is_section : List ℕ → Bool
is_section name = is_some (used_section name)

-- the argument of a `use` line, or its refusal
unfoldable pub parse_section : List ℕ → Span → Result (List Arg) ParseRefusal
parse_section text operand =
    value_unless (operand_form_refusal text operand.from (is_section (slice_of text operand)) None)
    (Symbol operand ∷ [])
