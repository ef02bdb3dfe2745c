-- Laws about places, symbols and parts of words.
use Rattle.std.specs.Prelude.{ℕ, ◌≡◌, ◌%◌, ◌^◌, Bool, true, false, ◌&&◌, ◌||◌, nat_le, List, []}
use Rattle.std.specs.Prelude.{◌∷◌}
use Rattle.std.specs.Prelude.{◌++◌, length, Option, Some, None, is_some, Ok}
use Rattle.alm_tokens.specs.Tokens.{slice_of}
use Rattle.alm_parse.specs.SourceFields.{Source}
use Rattle.alm_parse.specs.Sources.{source_of_text}
use Rattle.alm_tokens.specs.declared.span.Span.{Span}
use Rattle.alm_tokens.specs.declared.expression.Term.{Term}
use Rattle.alm_parse.specs.declared.args.Arg.{Arg}
use Rattle.alm_parse.specs.declared.args.Arg.TheVariants as arg
use Rattle.alm_parse.specs.declared.line.Line36.{Line36}
use Rattle.alm_parse.specs.Bodies.{own_section}
use Rattle.m36_inst.specs.Instruction.{inst_word, pr_offset}
use Rattle.obj36_parts.specs.declared.section.Section.{Section}
use Rattle.obj36_parts.specs.declared.section.Section.TheVariants.{Text, Linkage, Symbol, Static}
use Rattle.obj36_parts.specs.Names.{is_name}
use Rattle.obj36_parts.specs.ObjectSegment.{words_of, is_well_formed, segment_limit}
use Rattle.obj36_parts.specs.ObjectSegment.{left_part, right_part, part_of}
use Rattle.alm_lines.specs.Arguments.{name_at, first_arg, second_arg, terms_in}
use Rattle.alm_lines.specs.Expressions.{sum_of}
use Rattle.alm_asm.specs.Assembly.{parts_of, refusal_of}
use Rattle.alm_lines.specs.Sums.{half_of, offset_of}
use Rattle.alm_lines.specs.Symbols.{sum_named}
use Rattle.alm_lines.specs.Spots.{start, count_in, place, size_of, end_of}
use Rattle.alm_lines.specs.SpotFields.{LocationCounter}
use Rattle.alm_asm.specs.Links.{link_of, offset_of_link_in}
use Rattle.alm_asm.specs.Relocations.{operand_part}
use Rattle.alm_asm.specs.Words.{pointer_register_instruction, instruction_of_parts, halves_word}
use Rattle.alm_asm.specs.Words.{words_of_line, words_from}
use Rattle.alm_lines.specs.Layout.{symbols_from}
use Rattle.alm_lines.specs.Refusals.{fits_field}
use Rattle.alm_lines.specs.declared.refusal.ValueField.TheVariants.{Offset}
use Rattle.alm_lines.specs.declared.sum.Balance.{Balance}
use Rattle.alm_lines.specs.declared.sum.Sum.{Sum}
use Rattle.alm_asm.specs.declared.tables.Tables.{Tables}

-- whether lines can place words in a section
abbrev pub can_have_words : Section → Bool
can_have_words Text = true
can_have_words Linkage = true
can_have_words Symbol = false
can_have_words Static = true

-- The place of a line in a section is the number of words that the lines above it place there.
abbrev pub PlacesCount : Type 0
PlacesCount =
    (text : List ℕ) (tables : Tables) (section : Section) (above : List Line36)
    → can_have_words section ≡ true
    → count_in section (end_of text start above)
    ≡ length (words_from text tables section [] start above)

-- The size of any line is the number of words that it places in its section.
abbrev pub SizesCount : Type 0
SizesCount =
    (text : List ℕ) (tables : Tables) (spot : LocationCounter) (line : Line36)
    → size_of line.deed line.args (place spot)
    ≡ length (words_of_line text tables spot.section spot line)

-- The words of lines follow those of the lines above them.
abbrev pub WordsFollow : Type 0
WordsFollow =
    (text : List ℕ) (tables : Tables) (section : Section) (above lines : List Line36)
    → words_from text tables section [] start (above ++ lines)
    ≡ words_from text tables section (words_from text tables section [] start above)
    (end_of text start above) lines

-- The sum of a symbol that the lines above define does not change: it is that of its first
-- definition.
abbrev pub SymbolsStay : Type 0
SymbolsStay =
    (text : List ℕ) (above lines : List Line36) (name : List ℕ) (sum : Sum)
    → sum_named name (symbols_from text [] start above) ≡ Some sum
    → sum_named name (symbols_from text [] start (above ++ lines)) ≡ Some sum

-- The machine reads the offset after a pointer register as the number that was written, modulo
-- 2^18, for each number that fits the field.
abbrev pub OffsetsAreRead : Type 0
OffsetsAreRead =
    (code : ℕ) (bit27 : Bool) (pr tag : ℕ) (b : Balance) → fits_field Offset b ≡ true
    → pr_offset (pointer_register_instruction code bit27 pr (offset_of b) tag) ≡ half_of b

-- The part of a word that has a relocation holds the value of its expression: an address, an offset
-- after a pointer register, or either half. For an external operand it holds the offset of the
-- link.
pub record RelocatedPartsHoldValues : Type 0 where
  pub plain : (text : List ℕ) (tables : Tables) (spot : LocationCounter) (code : ℕ) (bit27 : Bool)
      (entry : Option Span) (terms : List Term) (tag : ℕ)
      → part_of (operand_part None None)
      (inst_word (instruction_of_parts text tables spot code bit27 None None entry terms tag))
      ≡ half_of (sum_of text tables.symbols spot terms).value
  pub through : (text : List ℕ) (tables : Tables) (spot : LocationCounter) (code : ℕ) (bit27 : Bool)
      (pr : ℕ)
      (entry : Option Span) (terms : List Term) (tag : ℕ)
      → part_of (operand_part (Some pr) None)
      (inst_word (instruction_of_parts text tables spot code bit27 (Some pr) None entry terms tag))
      ≡ offset_of (sum_of text tables.symbols spot terms).value
  pub linked : (text : List ℕ) (tables : Tables) (spot : LocationCounter) (code : ℕ) (bit27 : Bool)
      (pr : Option ℕ) (segment : Span) (entry : Option Span) (terms : List Term) (tag : ℕ)
      → part_of (operand_part pr (Some segment))
      (inst_word (instruction_of_parts text tables spot code bit27 pr
      (Some segment) entry terms tag))
      ≡ offset_of_link_in tables.links tables.first_link
      (link_of text tables.symbols spot segment entry terms tag) % 2 ^ 15
  pub first : (text : List ℕ) (tables : Tables) (spot : LocationCounter) (arguments : List Arg)
      → part_of left_part (halves_word text tables spot arguments)
      ≡ half_of (sum_of text tables.symbols spot (terms_in (first_arg arguments))).value
  pub second : (text : List ℕ) (tables : Tables) (spot : LocationCounter) (arguments : List Arg)
      → part_of right_part (halves_word text tables spot arguments)
      ≡ half_of (sum_of text tables.symbols spot (terms_in (second_arg arguments))).value

-- ---- which objects are too long

-- Whether the segment of an operand is a section of the source itself, or can be a name in an
-- object. That of a source that was parsed always is one of these.
abbrev pub segment_is_named : List ℕ → Option Span → Bool
segment_is_named text (Some segment) =
    is_some (own_section (slice_of text segment)) || is_name (name_at text segment)
segment_is_named text None = true

-- whether the entry of an operand can be a name in an object
abbrev pub entry_is_named : List ℕ → Option Span → Bool
entry_is_named text (Some entry) = is_name (name_at text entry)
entry_is_named text None = true

-- whether the names in an argument can be names in an object
abbrev pub arg_is_named : List ℕ → Arg → Bool
arg_is_named text (arg.Symbol span) = is_name (name_at text span)
arg_is_named text (arg.Number word) = true
arg_is_named text (arg.Chars words) = true
arg_is_named text (arg.Plain terms) = true
arg_is_named text (arg.Operand pr segment entry terms tag) =
    segment_is_named text segment && entry_is_named text entry

-- whether the names in all arguments can be names in an object
unfoldable pub args_are_named : List ℕ → List Arg → Bool
args_are_named text [] = true
args_are_named text (given ∷ more) = arg_is_named text given && args_are_named text more

-- Whether all names that lines use can be names in an object. Those of a source that was parsed
-- can.
unfoldable pub lines_are_named : List ℕ → List Line36 → Bool
lines_are_named text [] = true
lines_are_named text (line ∷ lines) = args_are_named text line.args && lines_are_named text lines

-- If no line of a source that was parsed is refused, the parts of its lines are well formed exactly
-- if the object has no more words than a segment may have.
abbrev pub OnlyTooLong : Type 0
OnlyTooLong =
    (text : List ℕ) (source : Source) → source_of_text text ≡ Ok source → refusal_of source ≡ None
    → is_well_formed (parts_of source) ≡ nat_le (length (words_of (parts_of source))) segment_limit
