-- The words that lines place.
use Rattle.std.specs.Prelude.{ℕ, ◌+◌, ◌*◌, ◌%◌, ◌^◌, Bool, true, false, List, [], ◌∷◌, ◌++◌}
use Rattle.std.specs.Prelude.{replicate, Option, Some, None, if◌then◌else◌}
use Rattle.alm_tokens.specs.declared.span.Span.{Span}
use Rattle.alm_tokens.specs.declared.expression.Term.{Term}
use Rattle.alm_tokens.specs.Modifiers.{star_tag}
use Rattle.alm_parse.specs.declared.args.Arg.{Arg}
use Rattle.alm_parse.specs.declared.args.Arg.TheVariants as arg
use Rattle.alm_parse.specs.declared.line.Line36.{Line36}
use Rattle.m36_inst.specs.Fields.{InstFields}
use Rattle.m36_inst.specs.Instruction.{inst_word}
use Rattle.obj36_parts.specs.declared.section.Section.{Section}
use Rattle.obj36_parts.specs.ObjectSegment.{linkage_register}
use Rattle.obj36_parts.specs.Sections.{same_section}
use Rattle.alm_lines.specs.Sums.{half_of, offset_of}
use Rattle.alm_lines.specs.Arguments.{first_arg, second_arg, terms_in, number_in, words_of_args}
use Rattle.alm_lines.specs.Spots.{place, next_line_spot}
use Rattle.alm_lines.specs.Expressions.{sum_of}
use Rattle.alm_asm.specs.Links.{link_of, offset_of_link_in}
use Rattle.alm_lines.specs.SpotFields.{LocationCounter}
use Rattle.alm_asm.specs.declared.tables.Tables.{Tables}
use Rattle.alm_parse.specs.declared.deed.LineEffect.{LineEffect}
use Rattle.alm_parse.specs.declared.deed.LineEffect.TheVariants as deed

-- ---- instructions

-- the fields of an instruction with an address
abbrev pub address_instruction : ℕ → Bool → ℕ → ℕ → InstFields
address_instruction code bit27 y tag =
    record {
      y = y;
      code = code % 2 ^ 9;
      bit27 = bit27;
      inhibit = false;
      by_pr = false;
      tag = tag % 2 ^ 6;
    }

-- the fields of an instruction with an offset after a pointer register
abbrev pub pointer_register_instruction : ℕ → Bool → ℕ → ℕ → ℕ → InstFields
pointer_register_instruction code bit27 pr offset tag =
    record {
      y = pr % 2 ^ 3 * 2 ^ 15 + offset;
      code = code % 2 ^ 9;
      bit27 = bit27;
      inhibit = false;
      by_pr = true;
      tag = tag % 2 ^ 6;
    }

-- The fields of an instruction whose operand is an expression: its value is the offset after a
-- pointer register, or the address.
abbrev pub internal_instruction : ℕ → Bool → Option ℕ → ℕ → ℕ → ℕ → InstFields
internal_instruction code bit27 (Some pr) y offset tag =
    pointer_register_instruction code bit27 pr offset tag
internal_instruction code bit27 None y offset tag = address_instruction code bit27 y tag

-- The fields of an instruction with an operand of these parts. An external operand is `pr4|link,*`.
abbrev pub instruction_of_parts :
    List ℕ → Tables → LocationCounter → ℕ → Bool → Option ℕ → Option Span → Option Span
    → List Term → ℕ → InstFields
instruction_of_parts text tables spot code bit27 pr (Some segment) entry terms tag =
    pointer_register_instruction code bit27 linkage_register
    (offset_of_link_in tables.links tables.first_link
    (link_of text tables.symbols spot segment entry terms tag) % 2 ^ 15) star_tag
instruction_of_parts text tables spot code bit27 pr None entry terms tag =
    internal_instruction code bit27 pr (half_of (sum_of text tables.symbols spot terms).value)
    (offset_of (sum_of text tables.symbols spot terms).value) tag

-- The fields of an instruction with this argument. Without an operand its address and tag are 0.
abbrev pub instruction_of_arg :
    List ℕ → Tables → LocationCounter → ℕ → Bool → Option Arg → InstFields
instruction_of_arg text tables spot code bit27 (Some (arg.Symbol span)) =
    address_instruction code bit27 0 0
instruction_of_arg text tables spot code bit27 (Some (arg.Number word)) =
    address_instruction code bit27 0 0
instruction_of_arg text tables spot code bit27 (Some (arg.Chars words)) =
    address_instruction code bit27 0 0
instruction_of_arg text tables spot code bit27 (Some (arg.Plain terms)) =
    address_instruction code bit27 0 0
instruction_of_arg text tables spot code bit27 (Some (arg.Operand pr segment entry terms tag)) =
    instruction_of_parts text tables spot code bit27 pr segment entry terms tag
instruction_of_arg text tables spot code bit27 None = address_instruction code bit27 0 0

-- ---- the words of a line

-- the word of an instruction
unfoldable pub instruction_word : List ℕ → Tables → LocationCounter → ℕ → Bool → List Arg → ℕ
instruction_word text tables spot code bit27 arguments =
    inst_word (instruction_of_arg text tables spot code bit27 (first_arg arguments))

-- the word of a `zero` line: the values of its two expressions
unfoldable pub halves_word : List ℕ → Tables → LocationCounter → List Arg → ℕ
halves_word text tables spot arguments =
    half_of (sum_of text tables.symbols spot (terms_in (first_arg arguments))).value * 2 ^ 18
    + half_of (sum_of text tables.symbols spot (terms_in (second_arg arguments))).value

-- the words that a line places, by its operation
abbrev pub words_of_effect : List ℕ → Tables → LocationCounter → List Arg → LineEffect → List ℕ
words_of_effect text tables spot arguments deed.Nothing = []
words_of_effect text tables spot arguments (deed.Instruction code bit27) =
    instruction_word text tables spot code bit27 arguments ∷ []
words_of_effect text tables spot arguments deed.Entry = []
words_of_effect text tables spot arguments deed.Segdef = []
words_of_effect text tables spot arguments deed.Equ = []
words_of_effect text tables spot arguments deed.Use = []
words_of_effect text tables spot arguments deed.Words = words_of_args [] arguments
words_of_effect text tables spot arguments deed.Zero = halves_word text tables spot arguments ∷ []
words_of_effect text tables spot arguments deed.Block =
    replicate (number_in (second_arg arguments)) 0
words_of_effect text tables spot arguments deed.Even = replicate (place spot % 2) 0
words_of_effect text tables spot arguments deed.Bound = []

-- the words that a line places in a section
unfoldable pub words_of_line : List ℕ → Tables → Section → LocationCounter → Line36 → List ℕ
words_of_line text tables section spot line =
    if same_section spot.section section then words_of_effect text tables spot line.args line.deed
    else []

-- the words of the lines in a section, after those so far
unfoldable pub words_from :
    List ℕ → Tables → Section → List ℕ → LocationCounter → List Line36 → List ℕ
words_from text tables section words spot [] = words
words_from text tables section words spot (line ∷ lines) =
    words_from text tables section (words ++ words_of_line text tables section spot line)
    (next_line_spot text spot line) lines
