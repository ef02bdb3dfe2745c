-- The parsed lines of a source.
use Rattle.std.specs.Prelude.{ℕ, Bool, not, List, [], Option, Some, None, option_map, Result, Ok}
use Rattle.std.specs.Prelude.{Err}
use Rattle.std.specs.List.{find}
use Rattle.m36_text.specs.Results.{and_then}
use Rattle.alm_tokens.specs.declared.span.Span.{Span}
use Rattle.alm_parse.specs.declared.args.Arg.{Arg}
use Rattle.alm_tokens.specs.declared.numerals.Numeral.TheVariants as numeral
use Rattle.alm_parse.specs.declared.operation.Operation.{Operation}
use Rattle.alm_parse.specs.declared.operation.Operation.TheVariants.{Instruction, Names, Value}
use Rattle.alm_parse.specs.declared.operation.Operation.TheVariants.{Section, Decimal, Octal}
use Rattle.alm_parse.specs.declared.operation.Operation.TheVariants.{Characters, Halves, Block}
use Rattle.alm_parse.specs.declared.operation.Operation.TheVariants.{Bare, End}
use Rattle.alm_parse.specs.declared.refusal.ParseCode.TheVariants.{E2, E3}
use Rattle.alm_parse.specs.declared.refusal.ParseRefusal.{ParseRefusal}
use Rattle.alm_tokens.specs.declared.head.Head.{Head}
use Rattle.alm_tokens.specs.declared.rows.Row.{Row}
use Rattle.alm_parse.specs.declared.line.Line36.{Line36}
use Rattle.alm_tokens.specs.Tokens.{slice_of, is_symbol, span_at}
use Rattle.m36_text.specs.Results.{value_unless}
use Rattle.alm_parse.specs.Refusals.{refusal_at_token}
use Rattle.alm_parse.specs.Operands.{parse_operand}
use Rattle.alm_parse.specs.Members.{parse_symbols, parse_numbers}
use Rattle.alm_parse.specs.Pairs.{parse_value, parse_halves, parse_block, parse_section}
use Rattle.alm_parse.specs.Characters.{parse_characters}
use Rattle.alm_tokens.specs.Heads.{head_of, operand_in, delimited_operand}
use Rattle.alm_parse.specs.Operations.{operation_of}
use Rattle.alm_parse.specs.Deeds.{effect_of_line}

-- The refusal of a missing operand, which is reported at the operation. The operand of an
-- instruction may be missing and is then 0. Some operations have no operand.
abbrev pub missing_operand_refusal : Operation → ℕ → Option ParseRefusal
missing_operand_refusal Instruction at = None
missing_operand_refusal Bare at = None
missing_operand_refusal End at = None
missing_operand_refusal Names at = Some (record { place = at; code = E2 })
missing_operand_refusal Value at = Some (record { place = at; code = E2 })
missing_operand_refusal Section at = Some (record { place = at; code = E2 })
missing_operand_refusal Decimal at = Some (record { place = at; code = E2 })
missing_operand_refusal Octal at = Some (record { place = at; code = E2 })
missing_operand_refusal Characters at = Some (record { place = at; code = E2 })
missing_operand_refusal Halves at = Some (record { place = at; code = E2 })
missing_operand_refusal Block at = Some (record { place = at; code = E2 })

-- the arguments in an operand, which depend on the operation
abbrev pub args_with : Operation → List ℕ → Span → Result (List Arg) ParseRefusal
args_with Instruction text operand = parse_operand text operand
args_with Names text operand = parse_symbols text operand
args_with Value text operand = parse_value text operand
args_with Section text operand = parse_section text operand
args_with Decimal text operand = parse_numbers numeral.Decimal text operand
args_with Octal text operand = parse_numbers numeral.Octal text operand
args_with Characters text operand = parse_characters text operand
args_with Halves text operand = parse_halves text operand
args_with Block text operand = parse_block text operand
args_with Bare text operand = Err (refusal_at_token text operand.from E2)
args_with End text operand = Ok []

-- The operand of an operation in the text after it. That of `aci` extends to the end of the line,
-- and can have quotation marks.
abbrev pub operand_for : Operation → List ℕ → Span → Option Span
operand_for Instruction text rest = operand_in text rest
operand_for Names text rest = operand_in text rest
operand_for Value text rest = operand_in text rest
operand_for Section text rest = operand_in text rest
operand_for Decimal text rest = operand_in text rest
operand_for Octal text rest = operand_in text rest
operand_for Characters text rest = delimited_operand text rest
operand_for Halves text rest = operand_in text rest
operand_for Block text rest = operand_in text rest
operand_for Bare text rest = operand_in text rest
operand_for End text rest = operand_in text rest

-- the arguments in an operand, or the refusal of one that is missing
abbrev pub args_if_present : Operation → List ℕ → ℕ → Option Span → Result (List Arg) ParseRefusal
args_if_present operation text op (Some operand) = args_with operation text operand
args_if_present operation text op None = value_unless (missing_operand_refusal operation op) []

-- the arguments of an operation, given the text after it
unfoldable pub args_of : Operation → List ℕ → ℕ → Span → Result (List Arg) ParseRefusal
args_of operation text op rest = args_if_present operation text op (operand_for operation text rest)

-- whether a label is not a symbol
abbrev pub is_no_symbol : List ℕ → Span → Bool
is_no_symbol text span = not (is_symbol (slice_of text span))

-- The refusal of the first label that is not a symbol: E2, or E1 if it begins with a byte that no
-- source can have. `marks` are the labels.
unfoldable pub label_refusal : List ℕ → List Span → Option ParseRefusal
label_refusal text marks =
    option_map (λ mark. refusal_at_token text mark.from E2) (find (is_no_symbol text) marks)

-- the line with these parts
abbrev pub line_of : List ℕ → Row → Head → List Arg → Line36
line_of text row head arguments =
    record {
      labels = head.labels;
      args = arguments;
      op = head.op;
      deed = effect_of_line text head.op;
      start = row.span.from;
      line = row.number;
    }

-- the line with these arguments, or their refusal
abbrev pub line_with :
    List ℕ → Row → Head → Result (List Arg) ParseRefusal → Result Line36 ParseRefusal
line_with text row head given = and_then given (λ arguments. Ok (line_of text row head arguments))

-- the line with this operation, or its refusal if there is none of this name: E3, or E1 if it
-- begins with a byte that no source can have
abbrev pub line_with_operation :
    List ℕ → Row → Head → Span → Option Operation → Result Line36 ParseRefusal
line_with_operation text row head op (Some operation) =
    line_with text row head (args_of operation text op.from (span_at op.to row.span.to))
line_with_operation text row head op None = Err (refusal_at_token text op.from E3)

-- the line with this operation, if it has one, given its labels
abbrev pub line_from : List ℕ → Row → Head → Option Span → Result Line36 ParseRefusal
line_from text row head (Some op) =
    line_with_operation text row head op (operation_of (slice_of text op))
line_from text row head None = Ok (line_of text row head [])

-- the line, unless a label is refused
abbrev pub line_unless_refused :
    Option ParseRefusal → List ℕ → Row → Head → Result Line36 ParseRefusal
line_unless_refused (Some refusal) text row head = Err refusal
line_unless_refused None text row head = line_from text row head head.op

-- the line with these labels and this operation, or its refusal
abbrev pub line_with_head : List ℕ → Row → Head → Result Line36 ParseRefusal
line_with_head text row head = line_unless_refused (label_refusal text head.labels) text row head

-- a line parsed by itself, or its refusal
unfoldable pub parse_line : List ℕ → Row → Result Line36 ParseRefusal
parse_line text row = line_with_head text row (head_of text row.span)
