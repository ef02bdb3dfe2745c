-- The sizes of the definition, linkage and symbol sections after each line. These have names,
-- expressions, links and relocations, whose words no line places itself. The other sections have
-- only words that lines place.
use Rattle.std.specs.Prelude.{ℕ, ◌≡◌, ◌≤◌, ◌+◌, Bool, true, false, ◌||◌, is_some}
use Rattle.std.specs.Prelude.{if◌then◌else◌, List, [], ◌∷◌, ◌++◌, length, Option, Some, None}
use Rattle.alm_tokens.specs.declared.span.Span.{Span}
use Rattle.alm_tokens.specs.declared.expression.Term.{Term}
use Rattle.alm_parse.specs.declared.args.Arg.{Arg}
use Rattle.alm_parse.specs.declared.args.Arg.TheVariants as arg
use Rattle.alm_parse.specs.declared.line.Line36.{Line36}
use Rattle.obj36_parts.specs.Fields.{LinkFields}
use Rattle.obj36_parts.specs.Names.{name_size}
use Rattle.obj36_parts.specs.ObjectSegment.{definition_head_words, symbol_head_words, link_names}
use Rattle.obj36_parts.specs.ObjectSegment.{linkage_length}
use Rattle.obj36_parts.specs.Indexes.{has_link}
use Rattle.alm_lines.specs.Sums.{zero_sum, kind_of}
use Rattle.alm_lines.specs.Symbols.{sum_named, with_symbol}
use Rattle.alm_lines.specs.Arguments.{name_at, first_arg, second_arg, terms_in}
use Rattle.alm_lines.specs.Spots.{next_line_spot}
use Rattle.alm_lines.specs.Refusals.{refusal_at, is_over_limit}
use Rattle.alm_lines.specs.Values.{has_value}
use Rattle.alm_asm.specs.Links.{operand_args, link_in}
use Rattle.alm_lines.specs.Expressions.{sum_of}
use Rattle.alm_asm.specs.Relocations.{operand_kind}
use Rattle.alm_asm.specs.Definitions.{defines_entries, sum_refusal}
use Rattle.alm_asm.specs.LineRefusals.{internal_operand_field}
use Rattle.alm_lines.specs.declared.sum.Sum.{Sum}
use Rattle.alm_lines.specs.declared.sum.Kind.{Kind}
use Rattle.alm_lines.specs.declared.sum.Kind.TheVariants.{Absolute, Moved, Inexpressible}
use Rattle.alm_lines.specs.declared.refusal.ValueField.{ValueField}
use Rattle.alm_lines.specs.declared.refusal.ValueField.TheVariants.{Half}
use Rattle.alm_parse.specs.declared.deed.LineEffect.{LineEffect}
use Rattle.alm_parse.specs.declared.deed.LineEffect.TheVariants as deed
use Rattle.alm_lines.specs.SpotFields.{LocationCounter}
use Rattle.alm_asm.specs.declared.growth.Growth.{Growth}
use Rattle.alm_lines.specs.declared.refusal.AlmCode.TheVariants.{E8}
use Rattle.alm_lines.specs.declared.refusal.AlmRefusal.{AlmRefusal}

-- The sizes before the first line. The definition section has its two first words, and the symbol
-- section the number of relocations.
abbrev pub first_growth : Growth
first_growth = record {
  names = [];
  defined = [];
  links = [];
  definition = definition_head_words;
  symbol = symbol_head_words;
}

-- ---- names

-- the sizes with a name, which takes words at its first use
unfoldable pub with_name : Growth → List ℕ → Growth
with_name g name =
    if is_some (sum_named name g.names) then g
    else record g
    { names = with_symbol g.names name zero_sum; definition = g.definition + name_size name }

-- the sizes with several names
unfoldable pub with_names : Growth → List (List ℕ) → Growth
with_names g [] = g
with_names g (name ∷ names) = with_names (with_name g name) names

-- ---- definitions

-- The sizes with a definition, which has two words, and its name. Each name is counted once.
unfoldable pub with_definition : Growth → List ℕ → Growth
with_definition g name =
    if is_some (sum_named name g.defined) then g
    else with_name
    (record g { defined = with_symbol g.defined name zero_sum; definition = g.definition + 2 }) name

-- the sizes with a definition of `entry` or `segdef`, unless it is refused
abbrev pub with_definition_unless_refused : Option AlmRefusal → Growth → List ℕ → Growth
with_definition_unless_refused (Some refusal) g name = g
with_definition_unless_refused None g name = with_definition g name

-- the sizes with the definition of an argument; only a symbol gives one
abbrev pub with_arg : List ℕ → List (List ℕ × Sum) → Line36 → Bool → Growth → Arg → Growth
with_arg text symbols line is_entry g (arg.Symbol span) =
    with_definition_unless_refused (sum_refusal line span.from is_entry
    (sum_named (name_at text span) symbols)) g
    (name_at text span)
with_arg text symbols line is_entry g (arg.Number word) = g
with_arg text symbols line is_entry g (arg.Chars words) = g
with_arg text symbols line is_entry g (arg.Plain terms) = g
with_arg text symbols line is_entry g (arg.Operand pr segment entry terms tag) = g

-- the sizes with the definitions of the arguments
unfoldable pub with_args : List ℕ → List (List ℕ × Sum) → Line36 → Bool → Growth → List Arg → Growth
with_args text symbols line is_entry g [] = g
with_args text symbols line is_entry g (arg ∷ arguments) =
    with_args text symbols line is_entry (with_arg text symbols line is_entry g arg) arguments

-- the sizes with the definitions of a line, if it gives any
abbrev pub with_definitions : List ℕ → List (List ℕ × Sum) → Line36 → Growth → Option Bool → Growth
with_definitions text symbols line g None = g
with_definitions text symbols line g (Some is_entry) =
    with_args text symbols line is_entry g line.args

-- ---- links

-- The sizes with a link that was not counted before. It has two words for its expression in the
-- definition section, the words of its names, and two words in the linkage section.
unfoldable pub with_new_link : Growth → LinkFields → Growth
with_new_link g link =
    with_names (record g { links = g.links ++ link ∷ []; definition = g.definition + 2 })
    (link_names link)

-- the sizes with a link, unless it was counted before
unfoldable pub with_link_once : Growth → LinkFields → Growth
with_link_once g link = if has_link link g.links then g else with_new_link g link

-- the sizes with the link of an operand, if it has one
abbrev pub with_link_if_any : Growth → Option LinkFields → Growth
with_link_if_any g None = g
with_link_if_any g (Some link) = with_link_once g link

-- ---- relocations

-- The number of relocations of an expression: 1 if it is a place of a section and has a value,
-- which the first argument says, and otherwise 0.
abbrev pub relocation_count : Bool → Kind → ℕ
relocation_count valued Absolute = 0
relocation_count valued (Moved section) = if valued then 1 else 0
relocation_count valued Inexpressible = 0

-- The field that the expression of an operand must fit. After an external name it is a half.
abbrev pub operand_field : Option ℕ → Option Span → ValueField
operand_field pr (Some segment) = Half
operand_field pr None = internal_operand_field pr

-- Whether the expression of an operand may be a place of a section: after an external name it must
-- be a number.
abbrev pub is_internal : Option Span → Bool
is_internal (Some segment) = false
is_internal None = true

-- the number of relocations of the operand of an instruction: 0 or 1
abbrev pub operand_count : List ℕ → List (List ℕ × Sum) → LocationCounter → Option Arg → ℕ
operand_count text symbols spot (Some (arg.Symbol span)) = 0
operand_count text symbols spot (Some (arg.Number word)) = 0
operand_count text symbols spot (Some (arg.Chars words)) = 0
operand_count text symbols spot (Some (arg.Plain terms)) = 0
operand_count text symbols spot (Some (arg.Operand pr segment entry terms tag)) =
    relocation_count
    (has_value text symbols spot terms (operand_field pr segment) (is_internal segment))
    (operand_kind segment (sum_of text symbols spot terms))
operand_count text symbols spot None = 0

-- the number of relocations of an expression that is a half of a word: 0 or 1
abbrev pub half_count : List ℕ → List (List ℕ × Sum) → LocationCounter → List Term → ℕ
half_count text symbols spot terms =
    relocation_count (has_value text symbols spot terms Half true)
    (kind_of (sum_of text symbols spot terms))

-- the number of relocations of the words that a line places
abbrev pub line_relocation_count :
    List ℕ → List (List ℕ × Sum) → LocationCounter → List Arg → LineEffect → ℕ
line_relocation_count text symbols spot arguments deed.Nothing = 0
line_relocation_count text symbols spot arguments (deed.Instruction code bit27) =
    operand_count text symbols spot (first_arg arguments)
line_relocation_count text symbols spot arguments deed.Entry = 0
line_relocation_count text symbols spot arguments deed.Segdef = 0
line_relocation_count text symbols spot arguments deed.Equ = 0
line_relocation_count text symbols spot arguments deed.Use = 0
line_relocation_count text symbols spot arguments deed.Words = 0
line_relocation_count text symbols spot arguments deed.Zero =
    half_count text symbols spot (terms_in (first_arg arguments))
    + half_count text symbols spot (terms_in (second_arg arguments))
line_relocation_count text symbols spot arguments deed.Block = 0
line_relocation_count text symbols spot arguments deed.Even = 0
line_relocation_count text symbols spot arguments deed.Bound = 0

-- the sizes with the relocations of a line
unfoldable pub with_relocations :
    List ℕ → List (List ℕ × Sum) → LocationCounter → Line36 → Growth → Growth
with_relocations text symbols spot line g =
    record g { symbol = g.symbol + line_relocation_count text symbols spot line.args line.deed }

-- ---- lines

-- the sizes with the definitions, the link and the relocations of a line
unfoldable pub growth_after_line :
    List ℕ → List (List ℕ × Sum) → LocationCounter → Growth → Line36 → Growth
growth_after_line text symbols spot g line =
    with_relocations text symbols spot line
    (with_link_if_any (with_definitions text symbols line g (defines_entries line.deed))
    (link_in text symbols spot (first_arg (operand_args line.deed line.args))))

-- Whether the definition, linkage or symbol section is too long. The linkage section has its head,
-- static words and links. The zero word after an odd number of static words is not counted: the
-- limit is even, and so is the number of all other words.
unfoldable pub has_section_over_limit : LocationCounter → Growth → Bool
has_section_over_limit spot g =
    is_over_limit g.definition || is_over_limit (linkage_length spot.inner (length g.links))
    || is_over_limit g.symbol

-- the refusal of the first line with which one of these sections is too long
unfoldable pub growth_refusal :
    List ℕ → List (List ℕ × Sum) → Growth → LocationCounter → List Line36
    → Option AlmRefusal
growth_refusal text symbols g spot [] = None
growth_refusal text symbols g spot (line ∷ lines) =
    if has_section_over_limit (next_line_spot text spot line)
    (growth_after_line text symbols spot g line) then Some
    (refusal_at line line.start E8)
    else growth_refusal text symbols (growth_after_line text symbols spot g line)
    (next_line_spot text spot line)
    lines

-- ---- bounds of the growth

-- After a change of the sizes the definition section has at most `more` more words, and the symbol
-- section as many as before.
pub record GrowsAtMost (more : ℕ) (before after : Growth) : Type 0 where
  pub definition : after.definition ≤ before.definition + more
  pub symbol : after.symbol ≡ before.symbol
