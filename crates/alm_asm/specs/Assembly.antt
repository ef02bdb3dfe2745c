-- The object of lines: its parts, or the first refusal in the order of the text.
use Rattle.std.specs.Prelude.{ℕ, ◌%◌, ◌^◌, Bool, true, false, List, [], ◌∷◌}
use Rattle.std.specs.Prelude.{Option, Some, None, option_map, Result, Ok, Err}
use Rattle.m36_text.specs.Results.{value_unless}
use Rattle.alm_parse.specs.SourceFields.{Source}
use Rattle.alm_parse.specs.declared.line.Line36.{Line36}
use Rattle.alm_parse.specs.declared.fault.AlmFault.{AlmFault}
use Rattle.alm_parse.specs.declared.fault.AlmFault.TheVariants.{E8}
use Rattle.obj36_parts.specs.declared.section.Section.{Section}
use Rattle.obj36_parts.specs.declared.section.Section.TheVariants.{Text, Linkage, Static}
use Rattle.obj36_parts.specs.Fields.{RelocFields}
use Rattle.obj36_parts.specs.PartsFields.{PartsFields}
use Rattle.obj36_parts.specs.ObjectSegment.{padded_to_even}
use Rattle.obj36_parts.specs.ObjectSegment.{rounded_up_to_even, is_well_formed}
use Rattle.obj36_parts.specs.ObjectSegment.{first_link_in_version}
use Rattle.alm_lines.specs.Spots.{start, next_line_spot, end_of}
use Rattle.alm_lines.specs.Refusals.{fault_of, earlier_refusal}
use Rattle.alm_lines.specs.Layout.{symbols_from, layout_refusal}
use Rattle.alm_asm.specs.Links.{links_from}
use Rattle.alm_asm.specs.Words.{words_from}
use Rattle.alm_asm.specs.Relocations.{relocations_from}
use Rattle.alm_asm.specs.Definitions.{definitions_from}
use Rattle.alm_asm.specs.LineRefusals.{lines_refusal}
use Rattle.alm_asm.specs.Parts.{parts_from_tables}
use Rattle.alm_asm.specs.Growth.{first_growth, growth_refusal}
use Rattle.alm_lines.specs.SpotFields.{LocationCounter}
use Rattle.alm_asm.specs.declared.tables.Tables.{Tables}
use Rattle.alm_parse.specs.declared.deed.LineEffect.{LineEffect}
use Rattle.alm_parse.specs.declared.deed.LineEffect.TheVariants as deed
use Rattle.alm_lines.specs.declared.refusal.AlmRefusal.{AlmRefusal}

-- ---- tables

-- The offset of the first link in the linkage section, given the place after the last line. Links
-- are after the head and the static words there, of which there is an even number.
abbrev pub first_link : LocationCounter → ℕ
first_link ending = first_link_in_version ending.uses_outer (rounded_up_to_even ending.inner)

-- the symbols of all lines with their sums, the links, and where the links and the static words are
unfoldable pub tables_of : List ℕ → List Line36 → Tables
tables_of text lines =
    record {
      symbols = symbols_from text [] start lines;
      links = links_from text (symbols_from text [] start lines) [] start lines;
      first_link = first_link (end_of text start lines);
      uses_outer = (end_of text start lines).uses_outer;
    }

-- ---- the entry bound

-- the entry bound after a line: its place in the text, if it is an `entrybound` line, or else the
-- bound so far
abbrev pub bound_after_line : LocationCounter → ℕ → LineEffect → ℕ
bound_after_line spot bound deed.Nothing = bound
bound_after_line spot bound (deed.Instruction code bit27) = bound
bound_after_line spot bound deed.Entry = bound
bound_after_line spot bound deed.Segdef = bound
bound_after_line spot bound deed.Equ = bound
bound_after_line spot bound deed.Use = bound
bound_after_line spot bound deed.Words = bound
bound_after_line spot bound deed.Zero = bound
bound_after_line spot bound deed.Block = bound
bound_after_line spot bound deed.Even = bound
bound_after_line spot bound deed.Bound = spot.text % 2 ^ 18

-- the entry bound of the lines, which is `bound` if none of them is an `entrybound` line
unfoldable pub bound_from : List ℕ → ℕ → LocationCounter → List Line36 → ℕ
bound_from text bound spot [] = bound
bound_from text bound spot (line ∷ lines) =
    bound_from text (bound_after_line spot bound line.deed) (next_line_spot text spot line) lines

-- ---- the parts

-- the section that has the static words, by whether the lines use a static section
abbrev pub static_section : Bool → Section
static_section true = Static
static_section false = Linkage

-- The static words of the object, given those that lines place. In version 1, which is false here,
-- a zero word follows an odd number of words.
abbrev pub padded_statics : Bool → List ℕ → List ℕ
padded_statics true words = words
padded_statics false words = padded_to_even words

-- the relocations of lines: those of the text, and then those of the static words
abbrev pub relocations_of : List ℕ → Tables → List Line36 → List RelocFields
relocations_of text tables lines =
    relocations_from text tables.symbols (static_section tables.uses_outer)
    (relocations_from text tables.symbols Text [] start lines) start lines

-- the parts of the object of lines, given the tables of these lines
unfoldable pub parts_with : List ℕ → Tables → List Line36 → PartsFields
parts_with text tables lines =
    parts_from_tables tables
    (record {
      text = words_from text tables Text [] start lines;
      statics = padded_statics tables.uses_outer
          (words_from text tables (static_section tables.uses_outer) [] start lines);
    })
    (record {
      definitions = definitions_from text tables.symbols [] lines;
      relocations = relocations_of text tables lines;
    })
    (bound_from text 0 start lines)

-- the parts of the object of a source, if it is not refused
abbrev pub parts_of : Source → PartsFields
parts_of source = parts_with source.text (tables_of source.text source.lines) source.lines

-- ---- the refusal

-- the first refusal in the order of the text, if there is one
abbrev pub refusal_in : List ℕ → List Line36 → Option AlmRefusal
refusal_in text lines =
    let tables = tables_of text lines in
    earlier_refusal
    (earlier_refusal
    (layout_refusal text None [] start lines)
    (lines_refusal text tables [] start lines))
    (growth_refusal text tables.symbols first_growth start lines)

-- the first refusal of a source in the order of the text, if there is one
unfoldable pub refusal_of : Source → Option AlmRefusal
refusal_of source = refusal_in source.text source.lines

-- the tables of lines, unless a line is refused
abbrev pub unless_refused : List ℕ → List Line36 → Option AlmRefusal → Result Tables AlmFault
unless_refused text lines refusal =
    value_unless (option_map fault_of refusal) (tables_of text lines)

-- the number of the last line, or 1
unfoldable pub last_line : ℕ → List Line36 → ℕ
last_line number [] = number
last_line number (line ∷ lines) = last_line line.line lines

-- The parts, if they are well formed, which the last argument says. Otherwise E8 at the last line,
-- which has this number: the object would have more than 2^18 words.
abbrev pub parts_if_well_formed : PartsFields → ℕ → Bool → Result PartsFields AlmFault
parts_if_well_formed parts number true = Ok parts
parts_if_well_formed parts number false = Err (E8 number 1)

-- the parts of a source, given its first refusal, or the fault of this
abbrev pub assembled_unless_refused : Source → Option AlmRefusal → Result PartsFields AlmFault
assembled_unless_refused source (Some refusal) = Err (fault_of refusal)
assembled_unless_refused source None =
    parts_if_well_formed (parts_of source) (last_line 1 source.lines)
    (is_well_formed (parts_of source))

-- the parts of the object of a source, or the fault of its first refusal
unfoldable pub assembled : Source → Result PartsFields AlmFault
assembled source = assembled_unless_refused source (refusal_of source)
