-- The symbols that lines define, and the refusals of their definitions and of the lengths of
-- sections.
use Rattle.std.specs.Prelude.{ℕ, Bool, true, false, List, [], ◌∷◌, Option, Some, None}
use Rattle.std.specs.Prelude.{if◌then◌else◌}
use Rattle.alm_tokens.specs.declared.span.Span.{Span}
use Rattle.alm_parse.specs.declared.args.Arg.{Arg}
use Rattle.alm_parse.specs.declared.line.Line36.{Line36}
use Rattle.alm_lines.specs.Sums.{zero_balance, unknown_sum, normalized}
use Rattle.alm_lines.specs.Symbols.{with_symbol}
use Rattle.alm_lines.specs.Arguments.{name_at, first_arg, second_arg, symbol_in, terms_in}
use Rattle.alm_lines.specs.Spots.{count, here, next_line_spot}
use Rattle.alm_lines.specs.Refusals.{earlier_refusal, refusal_at, number_refusal}
use Rattle.alm_lines.specs.Values.{has_number}
use Rattle.alm_lines.specs.Refusals.{is_over_limit}
use Rattle.alm_lines.specs.declared.sum.Sum.{Sum}
use Rattle.alm_lines.specs.SpotFields.{LocationCounter}
use Rattle.alm_lines.specs.Expressions.{sum_of, is_defined, expression_place}
use Rattle.alm_parse.specs.declared.deed.LineEffect.{LineEffect}
use Rattle.alm_parse.specs.declared.deed.LineEffect.TheVariants as deed
use Rattle.alm_lines.specs.declared.refusal.AlmCode.TheVariants.{E5, E8}
use Rattle.alm_lines.specs.declared.refusal.AlmRefusal.{AlmRefusal}

-- ---- labels

-- the refusal (E5) of a symbol that is defined already
unfoldable pub redefinition : List ℕ → Line36 → List (List ℕ × Sum) → Span → Option AlmRefusal
redefinition text line symbols span =
    if is_defined text symbols span then Some (refusal_at line span.from E5) else None

-- the symbols with the labels of a line, each of which has this sum
unfoldable pub with_labels : List ℕ → Sum → List (List ℕ × Sum) → List Span → List (List ℕ × Sum)
with_labels text sum symbols [] = symbols
with_labels text sum symbols (span ∷ spans) =
    with_labels text sum (with_symbol symbols (name_at text span) sum) spans

-- the first in the text of the refusal `first` and those of labels that are defined already
unfoldable pub labels_refusal : List ℕ → Line36 → Sum → List (List ℕ × Sum) → Option AlmRefusal
    → List Span → Option AlmRefusal
labels_refusal text line sum symbols first [] = first
labels_refusal text line sum symbols first (span ∷ spans) =
    labels_refusal text line sum (with_symbol symbols (name_at text span) sum)
    (earlier_refusal first (redefinition text line symbols span)) spans

-- ---- `equ` and `bss`

-- the symbol that an operation defines: the first argument of `equ` and `bss`
abbrev pub defined_symbol : LineEffect → List Arg → Option Span
defined_symbol deed.Nothing arguments = None
defined_symbol (deed.Instruction code bit27) arguments = None
defined_symbol deed.Entry arguments = None
defined_symbol deed.Segdef arguments = None
defined_symbol deed.Equ arguments = symbol_in (first_arg arguments)
defined_symbol deed.Use arguments = None
defined_symbol deed.Words arguments = None
defined_symbol deed.Zero arguments = None
defined_symbol deed.Block arguments = symbol_in (first_arg arguments)
defined_symbol deed.Even arguments = None
defined_symbol deed.Bound arguments = None

-- the refusal of an `equ` whose expression is not a number by the symbols above
abbrev pub equ_refusal : List ℕ → List (List ℕ × Sum) → LocationCounter → Line36 → Option AlmRefusal
equ_refusal text symbols spot line =
    number_refusal text symbols spot line (terms_in (second_arg line.args))
    (expression_place (terms_in (second_arg line.args)))

-- the refusal of the value of the symbol that an operation defines: that of the expression of an
-- `equ`
abbrev pub defined_symbol_refusal :
    List ℕ → List (List ℕ × Sum) → LocationCounter → Line36 → LineEffect → Option AlmRefusal
defined_symbol_refusal text symbols spot line deed.Nothing = None
defined_symbol_refusal text symbols spot line (deed.Instruction code bit27) = None
defined_symbol_refusal text symbols spot line deed.Entry = None
defined_symbol_refusal text symbols spot line deed.Segdef = None
defined_symbol_refusal text symbols spot line deed.Equ = equ_refusal text symbols spot line
defined_symbol_refusal text symbols spot line deed.Use = None
defined_symbol_refusal text symbols spot line deed.Words = None
defined_symbol_refusal text symbols spot line deed.Zero = None
defined_symbol_refusal text symbols spot line deed.Block = None
defined_symbol_refusal text symbols spot line deed.Even = None
defined_symbol_refusal text symbols spot line deed.Bound = None

-- the sum that is the number of this sum, and not a place of a section
abbrev pub number_sum : Sum → Sum
number_sum sum =
    record {
      value = normalized sum.value;
      text = zero_balance;
      inner = zero_balance;
      outer = zero_balance;
      unknown = false;
    }

-- the sum of the symbol of an `equ`: the number of its expression, if this has one, which the first
-- argument says, and otherwise unknown
abbrev pub number_or_unknown : Bool → Sum → Sum
number_or_unknown true sum = number_sum sum
number_or_unknown false sum = unknown_sum

-- the sum of the symbol of an `equ`: the number of its expression, unknown if it is refused or
-- depends on an unknown one
unfoldable pub equ_sum : List ℕ → List (List ℕ × Sum) → LocationCounter → Line36 → Sum
equ_sum text symbols spot line =
    number_or_unknown (has_number text symbols spot (terms_in (second_arg line.args)))
    (sum_of text symbols spot (terms_in (second_arg line.args)))

-- the sum of the symbol that an operation defines: the number of an `equ`, or the place of the line
abbrev pub defined_symbol_sum :
    List ℕ → List (List ℕ × Sum) → LocationCounter → Line36 → LineEffect → Sum
defined_symbol_sum text symbols spot line deed.Nothing = here spot
defined_symbol_sum text symbols spot line (deed.Instruction code bit27) = here spot
defined_symbol_sum text symbols spot line deed.Entry = here spot
defined_symbol_sum text symbols spot line deed.Segdef = here spot
defined_symbol_sum text symbols spot line deed.Equ = equ_sum text symbols spot line
defined_symbol_sum text symbols spot line deed.Use = here spot
defined_symbol_sum text symbols spot line deed.Words = here spot
defined_symbol_sum text symbols spot line deed.Zero = here spot
defined_symbol_sum text symbols spot line deed.Block = here spot
defined_symbol_sum text symbols spot line deed.Even = here spot
defined_symbol_sum text symbols spot line deed.Bound = here spot

-- the symbols with that which an operation defines, if it defines one
abbrev pub with_defined_symbol :
    List ℕ → List (List ℕ × Sum) → Option Span → Sum → List (List ℕ × Sum)
with_defined_symbol text symbols None sum = symbols
with_defined_symbol text symbols (Some span) sum = with_symbol symbols (name_at text span) sum

-- the refusal of the symbol that an operation defines, if it is defined already
abbrev pub own_redefinition :
    List ℕ → Line36 → List (List ℕ × Sum) → Option Span → Option AlmRefusal
own_redefinition text line symbols None = None
own_redefinition text line symbols (Some span) = redefinition text line symbols span

-- the symbols with that which the operation of a line defines, if it defines one
unfoldable pub symbols_with_defined :
    List ℕ → List (List ℕ × Sum) → LocationCounter → Line36 → LineEffect
    → List (List ℕ × Sum)
symbols_with_defined text symbols spot line deed =
    with_defined_symbol text symbols (defined_symbol deed line.args)
    (defined_symbol_sum text symbols spot line deed)

-- the refusal of the symbol that the operation of a line defines: it is defined already, or its
-- value is refused
unfoldable pub definition_refusal :
    List ℕ → List (List ℕ × Sum) → LocationCounter → Line36 → LineEffect → Option AlmRefusal
definition_refusal text symbols spot line deed =
    earlier_refusal (own_redefinition text line symbols (defined_symbol deed line.args))
    (defined_symbol_refusal text symbols spot line deed)

-- ---- a line

-- the refusal (E8) of a section with more words than it may have, at the line that makes it too
-- long
unfoldable pub over_limit_refusal : Line36 → LocationCounter → Option AlmRefusal
over_limit_refusal line spot =
    if is_over_limit (count spot) then Some (refusal_at line line.start E8) else None

-- the symbols with the labels of a line
abbrev pub symbols_with_labels :
    List ℕ → List (List ℕ × Sum) → LocationCounter → Line36 → List (List ℕ × Sum)
symbols_with_labels text symbols spot line = with_labels text (here spot) symbols line.labels

-- the symbols with those that a line defines
unfoldable pub symbols_after :
    List ℕ → List (List ℕ × Sum) → LocationCounter → Line36 → List (List ℕ × Sum)
symbols_after text symbols spot line =
    symbols_with_defined text (symbols_with_labels text symbols spot line) spot line line.deed

-- the first in the text of `first`, the refusals of the symbols of a line, and that of a section
-- that it makes too long
unfoldable pub refusal_after :
    List ℕ → Option AlmRefusal → List (List ℕ × Sum) → LocationCounter → Line36
    → Option AlmRefusal
refusal_after text first symbols spot line =
    earlier_refusal
    (earlier_refusal (labels_refusal text line (here spot) symbols first line.labels)
    (definition_refusal text (symbols_with_labels text symbols spot line) spot line line.deed))
    (over_limit_refusal line (next_line_spot text spot line))

-- ---- the lines

-- the symbols of the lines, after those so far
unfoldable pub symbols_from : List ℕ → List (List ℕ × Sum) → LocationCounter → List Line36
    → List (List ℕ × Sum)
symbols_from text symbols spot [] = symbols
symbols_from text symbols spot (line ∷ lines) =
    symbols_from text (symbols_after text symbols spot line) (next_line_spot text spot line) lines

-- the first in the text of the refusal `first`, those of the definitions of the lines, and those of
-- sections that are too long
unfoldable pub layout_refusal :
    List ℕ → Option AlmRefusal → List (List ℕ × Sum) → LocationCounter → List Line36
    → Option AlmRefusal
layout_refusal text first symbols spot [] = first
layout_refusal text first symbols spot (line ∷ lines) =
    layout_refusal text (refusal_after text first symbols spot line)
    (symbols_after text symbols spot line) (next_line_spot text spot line) lines
