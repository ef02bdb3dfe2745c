-- Refusals of lines, given the symbols of all lines.
use Rattle.std.specs.Prelude.{ℕ, ◌+◌, Bool, true, false, not, ◌||◌, nat_lt, List, [], ◌∷◌, Option}
use Rattle.std.specs.Prelude.{Some, None}
use Rattle.std.specs.Option.{option_or}
use Rattle.alm_tokens.specs.Tokens.{slice_of}
use Rattle.alm_tokens.specs.declared.span.Span.{Span}
use Rattle.alm_tokens.specs.declared.expression.Term.{Term}
use Rattle.alm_parse.specs.declared.args.Arg.{Arg}
use Rattle.alm_parse.specs.declared.args.Arg.TheVariants as arg
use Rattle.alm_parse.specs.declared.line.Line36.{Line36}
use Rattle.alm_parse.specs.Bodies.{own_section}
use Rattle.m36_word.specs.Field.{offset_limit}
use Rattle.obj36_parts.specs.Sections.{is_text_section}
use Rattle.obj36_parts.specs.declared.section.Section.{Section}
use Rattle.obj36_parts.specs.declared.section.Section.TheVariants.{Text, Linkage, Symbol, Static}
use Rattle.obj36_parts.specs.declared.definition.Named.{Named}
use Rattle.alm_lines.specs.Arguments.{first_arg, second_arg, symbol_in, terms_in, section_in}
use Rattle.alm_lines.specs.Spots.{next_line_spot}
use Rattle.alm_lines.specs.Expressions.{expression_place}
use Rattle.alm_lines.specs.Refusals.{earlier_refusal, refusal_at, expression_refusal}
use Rattle.alm_lines.specs.Refusals.{number_refusal}
use Rattle.alm_lines.specs.Values.{has_number}
use Rattle.alm_asm.specs.Links.{link_of, offset_of_link_in}
use Rattle.alm_asm.specs.Definitions.{defines_entries, definitions_after, definitions_refusal}
use Rattle.alm_lines.specs.SpotFields.{LocationCounter}
use Rattle.alm_lines.specs.declared.sum.Sum.{Sum}
use Rattle.alm_asm.specs.declared.tables.Tables.{Tables}
use Rattle.alm_parse.specs.declared.deed.LineEffect.{LineEffect}
use Rattle.alm_parse.specs.declared.deed.LineEffect.TheVariants as deed
use Rattle.alm_lines.specs.declared.refusal.AlmCode.TheVariants.{E7}
use Rattle.alm_lines.specs.declared.refusal.AlmRefusal.{AlmRefusal}
use Rattle.alm_lines.specs.declared.refusal.ValueField.{ValueField}
use Rattle.alm_lines.specs.declared.refusal.ValueField.TheVariants.{Half, Offset}

-- the refusal, unless the condition holds
abbrev pub refusal_unless : Bool → AlmRefusal → Option AlmRefusal
refusal_unless true refusal = None
refusal_unless false refusal = Some refusal

-- the index of an operation in the text; 0 if there is none
abbrev pub op_place : Option Span → ℕ
op_place (Some op) = op.from
op_place None = 0

-- ---- operands

-- The index in the text where the expression after an external name begins: after a sign. Without
-- an entry the dollar sign is before it.
abbrev pub external_place : Span → Option Span → ℕ
external_place segment (Some entry) = entry.to + 1
external_place segment None = segment.to + 2

-- whether this is the static section
abbrev pub is_static : Section → Bool
is_static Text = false
is_static Linkage = false
is_static Symbol = false
is_static Static = true

-- whether the segment of an operand is the static section of the object itself
abbrev pub needs_static : Option Section → Bool
needs_static (Some section) = is_static section
needs_static None = false

-- Whether an operand may name this section of the object itself: the static section only if the
-- lines have one.
abbrev pub may_name : Tables → Option Section → Bool
may_name tables own = tables.uses_outer || not (needs_static own)

-- Whether the link of an external operand is in the reach of `pr4|`: its offset in the linkage
-- section is below 2^14.
unfoldable pub is_in_reach :
    List ℕ → Tables → LocationCounter → Span → Option Span → List Term → ℕ → Bool
is_in_reach text tables spot segment entry terms tag =
    nat_lt
    (offset_of_link_in tables.links tables.first_link
    (link_of text tables.symbols spot segment entry terms tag)) offset_limit

-- The field of an expression that is not external: bits 3 to 17 after a pointer register, and
-- otherwise half a word.
abbrev pub internal_operand_field : Option ℕ → ValueField
internal_operand_field (Some pr) = Offset
internal_operand_field None = Half

-- the refusal of the expression after an external name
abbrev pub link_expression :
    List ℕ → List (List ℕ × Sum) → LocationCounter → Line36 → Span → Option Span
    → List Term → Option AlmRefusal
link_expression text symbols spot line segment entry terms =
    number_refusal text symbols spot line terms (external_place segment entry)

-- Whether the link of an external operand is in reach. An operand whose expression has no value is
-- not a link, so its place is not checked.
unfoldable pub link_is_in_reach :
    List ℕ → Tables → LocationCounter → Span → Option Span → List Term → ℕ → Bool
link_is_in_reach text tables spot segment entry terms tag =
    not (has_number text tables.symbols spot terms)
    || is_in_reach text tables spot segment entry terms tag

-- The refusal of an external operand: that of its expression; or E7 at its segment, if its link is
-- out of reach or it names a static section that the lines do not have.
abbrev pub external_refusal :
    List ℕ → Tables → LocationCounter → Line36 → Span → Option Span → List Term → ℕ
    → Option AlmRefusal
external_refusal text tables spot line segment entry terms tag =
    let at = refusal_at line segment.from E7 in
    earlier_refusal
    (earlier_refusal
    (link_expression text tables.symbols spot line segment entry terms)
    (refusal_unless (link_is_in_reach text tables spot segment entry terms tag) at))
    (refusal_unless (may_name tables (own_section (slice_of text segment))) at)

-- the refusal of an operand that is an expression, without a segment
abbrev pub internal_operand_refusal :
    List ℕ → Tables → LocationCounter → Line36 → ValueField → List Term → Option AlmRefusal
internal_operand_refusal text tables spot line room terms =
    expression_refusal text tables.symbols spot line terms (expression_place terms) room true

-- the refusal of an operand with these parts: external if it names a segment, and otherwise an
-- expression
abbrev pub refusal_of_operand_parts :
    List ℕ → Tables → LocationCounter → Line36 → Option ℕ → Option Span → Option Span
    → List Term → ℕ → Option AlmRefusal
refusal_of_operand_parts text tables spot line pr (Some segment) entry terms tag =
    external_refusal text tables spot line segment entry terms tag
refusal_of_operand_parts text tables spot line pr None entry terms tag =
    internal_operand_refusal text tables spot line (internal_operand_field pr) terms

-- the refusal of the operand of an instruction, if it has one; no other argument is refused here
abbrev pub operand_refusal :
    List ℕ → Tables → LocationCounter → Line36 → Option Arg → Option AlmRefusal
operand_refusal text tables spot line (Some (arg.Symbol span)) = None
operand_refusal text tables spot line (Some (arg.Number word)) = None
operand_refusal text tables spot line (Some (arg.Chars words)) = None
operand_refusal text tables spot line (Some (arg.Plain terms)) = None
operand_refusal text tables spot line (Some (arg.Operand pr segment entry terms tag)) =
    refusal_of_operand_parts text tables spot line pr segment entry terms tag
operand_refusal text tables spot line None = None

-- ---- operations

-- Whether a `use` line may select a section: the static words of a source are all in one section.
abbrev pub may_select : LocationCounter → Section → Bool
may_select spot Text = true
may_select spot Linkage = not spot.uses_outer
may_select spot Symbol = true
may_select spot Static = not spot.uses_inner

-- The refusal of an instruction: E7 at the operation outside the text, and those of its operand.
abbrev pub instruction_refusal : List ℕ → Tables → LocationCounter → Line36 → Option AlmRefusal
instruction_refusal text tables spot line =
    earlier_refusal (refusal_unless (is_text_section spot.section)
    (refusal_at line (op_place line.op) E7))
    (operand_refusal text tables spot line (first_arg line.args))

-- the refusal of a `use` line: E7 at the operation, if the static words are in the other section
abbrev pub use_refusal : List ℕ → LocationCounter → Line36 → Option AlmRefusal
use_refusal text spot line =
    refusal_unless (may_select spot (section_in text (symbol_in (first_arg line.args))))
    (refusal_at line (op_place line.op) E7)

-- the first refusal of the two expressions of a `zero` line
abbrev pub halves_refusal : List ℕ → Tables → LocationCounter → Line36 → Option AlmRefusal
halves_refusal text tables spot line =
    earlier_refusal (internal_operand_refusal text tables spot line Half
    (terms_in (first_arg line.args)))
    (internal_operand_refusal text tables spot line Half (terms_in (second_arg line.args)))

-- the refusal of the operation of a line, apart from those of the names and symbols that it defines
abbrev pub refusal_of_effect :
    List ℕ → Tables → LocationCounter → Line36 → LineEffect → Option AlmRefusal
refusal_of_effect text tables spot line deed.Nothing = None
refusal_of_effect text tables spot line (deed.Instruction code bit27) =
    instruction_refusal text tables spot line
refusal_of_effect text tables spot line deed.Entry = None
refusal_of_effect text tables spot line deed.Segdef = None
refusal_of_effect text tables spot line deed.Equ = None
refusal_of_effect text tables spot line deed.Use = use_refusal text spot line
refusal_of_effect text tables spot line deed.Words = None
refusal_of_effect text tables spot line deed.Zero = halves_refusal text tables spot line
refusal_of_effect text tables spot line deed.Block = None
refusal_of_effect text tables spot line deed.Even = None
refusal_of_effect text tables spot line deed.Bound = None

-- ---- the lines

-- the first refusal of a line: of its definitions or of its operation
unfoldable pub line_refusal :
    List ℕ → Tables → List Named → LocationCounter → Line36 → Option AlmRefusal
line_refusal text tables done spot line =
    earlier_refusal
    (definitions_refusal text tables.symbols line done None line.args (defines_entries line.deed))
    (refusal_of_effect text tables spot line line.deed)

-- The refusal of the first line that is refused. It is earlier in the text than those of all lines
-- below.
unfoldable pub lines_refusal :
    List ℕ → Tables → List Named → LocationCounter → List Line36 → Option AlmRefusal
lines_refusal text tables done spot [] = None
lines_refusal text tables done spot (line ∷ lines) =
    option_or
    (line_refusal text tables done spot line)
    (lines_refusal text tables
    (definitions_after text tables.symbols done line) (next_line_spot text spot line) lines)
