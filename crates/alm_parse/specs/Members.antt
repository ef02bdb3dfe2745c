-- Operands that are lists: symbols or numbers, separated by commas.
use Rattle.std.specs.Prelude.{ℕ, List, map, None, Result}
use Rattle.std.specs.List.{list_all}
use Rattle.alm_tokens.specs.declared.span.Span.{Span}
use Rattle.alm_tokens.specs.declared.pieces.TextPiece.{TextPiece}
use Rattle.alm_parse.specs.declared.args.Arg.{Arg}
use Rattle.alm_parse.specs.declared.args.Arg.TheVariants.{Symbol, Number}
use Rattle.alm_tokens.specs.declared.numerals.Numeral.{Numeral}
use Rattle.alm_parse.specs.declared.refusal.ParseRefusal.{ParseRefusal}
use Rattle.alm_tokens.specs.Tokens.{slice_of}
use Rattle.alm_tokens.specs.Lists.{members, is_symbol_at, member_has_form_of}
use Rattle.alm_tokens.specs.Lists.{first_out_of_range_place}
use Rattle.alm_tokens.specs.Numerals.{number_word}
use Rattle.m36_text.specs.Results.{value_unless}
use Rattle.alm_parse.specs.Refusals.{operand_form_refusal}

-- the argument that is the symbol of a member
abbrev pub symbol_arg : TextPiece → Arg
symbol_arg member = Symbol member.span

-- the arguments of a list of symbols, or its refusal
unfoldable pub parse_symbols : List ℕ → Span → Result (List Arg) ParseRefusal
parse_symbols text operand =
    value_unless (operand_form_refusal text operand.from
    (list_all (is_symbol_at text) (members text operand)) None)
    (map symbol_arg (members text operand))

-- the argument that is the word of the number of a member
abbrev pub number_arg : Numeral → List ℕ → TextPiece → Arg
number_arg numeral text member = Number (number_word numeral (slice_of text member.span))

-- the numbers of members, or the refusal of the operand at index `at` or of a number out of its
-- range
abbrev pub numbers_of_members :
    Numeral → List ℕ → ℕ → List TextPiece → Result (List Arg) ParseRefusal
numbers_of_members numeral text at pieces =
    value_unless
    (operand_form_refusal text at (list_all (member_has_form_of numeral text) pieces)
    (first_out_of_range_place numeral text pieces))
    (map (number_arg numeral text) pieces)

-- the arguments of a list of numbers, or its refusal
unfoldable pub parse_numbers : Numeral → List ℕ → Span → Result (List Arg) ParseRefusal
parse_numbers numeral text operand =
    numbers_of_members numeral text operand.from (members text operand)
