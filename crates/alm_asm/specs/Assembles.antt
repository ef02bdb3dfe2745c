-- The relation of lines and their object, by what is where in it. The place of a line follows from
-- the lines above it: the section that the last `use` line among them selects, after the words that
-- they place there.
use Rattle.std.specs.Prelude.{ℕ, ◌≡◌, ◌+◌, ◌%◌, Bool, true, false, ◌⊎◌, List, []}
use Rattle.std.specs.Prelude.{◌∷◌, ◌++◌, length, replicate, Option, Some, None, is_some}
use Rattle.std.specs.List.{list_any}
use Rattle.m36_text.specs.Once.{are_distinct_by}
use Rattle.alm_parse.specs.SourceFields.{Source}
use Rattle.alm_tokens.specs.declared.span.Span.{Span}
use Rattle.alm_parse.specs.declared.args.Arg.{Arg}
use Rattle.alm_parse.specs.declared.args.Arg.TheVariants as arg
use Rattle.alm_parse.specs.declared.line.Line36.{Line36}
use Rattle.obj36_parts.specs.declared.section.Section.{Section}
use Rattle.obj36_parts.specs.declared.section.Section.TheVariants.{Text}
use Rattle.obj36_parts.specs.Fields.{LinkFields}
use Rattle.obj36_parts.specs.PartsFields.{PartsFields}
use Rattle.obj36_parts.specs.ObjectSegment.{definition_names, are_distinct, are_in_order}
use Rattle.obj36_parts.specs.ObjectSegment.{version_of, rounded_up_to_even, first_link}
use Rattle.obj36_parts.specs.ObjectSegment.{sections_fit}
use Rattle.obj36_parts.specs.Indexes.{same_link, has_link}
use Rattle.alm_lines.specs.Symbols.{sum_named}
use Rattle.alm_lines.specs.Arguments.{name_at, first_arg, symbol_in, section_in}
use Rattle.alm_lines.specs.Spots.{start, count_in, here, end_of}
use Rattle.alm_asm.specs.Links.{operand_args, link_in, links_from}
use Rattle.alm_asm.specs.Words.{words_of_effect}
use Rattle.alm_lines.specs.Layout.{defined_symbol, defined_symbol_sum, symbols_with_labels}
use Rattle.alm_lines.specs.Layout.{symbols_from}
use Rattle.alm_asm.specs.Definitions.{definitions_from}
use Rattle.alm_asm.specs.LineRefusals.{is_static}
use Rattle.alm_asm.specs.Assembly.{tables_of, static_section, relocations_of}
use Rattle.alm_lines.specs.declared.sum.Sum.{Sum}
use Rattle.alm_lines.specs.SpotFields.{LocationCounter}
use Rattle.alm_asm.specs.declared.tables.Tables.{Tables}
use Rattle.alm_parse.specs.declared.deed.LineEffect.{LineEffect}
use Rattle.alm_parse.specs.declared.deed.LineEffect.TheVariants as deed

-- ---- terms of the relation

-- The words `part` are a part of `words`, directly after the first `count` of these.
pub record OccursAfter (count : ℕ) (part words : List ℕ) : Type 0 where
  pub front : List ℕ
  pub rest : List ℕ
  pub whole : words ≡ front ++ part ++ rest
  pub place : length front ≡ count

-- the place of the line after some others
abbrev pub spot_after : Source → List Line36 → LocationCounter
spot_after source above = end_of source.text start above

-- the lines of a source are those above a line, the line, and the others
abbrev pub IsSplit : Source → List Line36 → Line36 → List Line36 → Type 0
IsSplit source above line others = source.lines ≡ above ++ line ∷ others

-- the tables of a source: its symbols with their sums, its links, and where links and static words
-- are
abbrev pub tables_of_source : Source → Tables
tables_of_source source = tables_of source.text source.lines

-- the words that a line places: its instruction, numbers, characters, halves or zeros
abbrev pub words_placed : Source → List Line36 → Line36 → List ℕ
words_placed source above line =
    words_of_effect source.text (tables_of_source source)
    (spot_after source above) line.args line.deed

-- whether the operation is `use` and this section, which it selects, is the static one
abbrev pub enters_static : LineEffect → Section → Bool
enters_static deed.Nothing section = false
enters_static (deed.Instruction code bit27) section = false
enters_static deed.Entry section = false
enters_static deed.Segdef section = false
enters_static deed.Equ section = false
enters_static deed.Use section = is_static section
enters_static deed.Words section = false
enters_static deed.Zero section = false
enters_static deed.Block section = false
enters_static deed.Even section = false
enters_static deed.Bound section = false

-- whether a line is `use static`
unfoldable pub is_use_static : List ℕ → Line36 → Bool
is_use_static text line =
    enters_static line.deed (section_in text (symbol_in (first_arg line.args)))

-- whether an operation is `entrybound`
abbrev pub is_entrybound_effect : LineEffect → Bool
is_entrybound_effect deed.Nothing = false
is_entrybound_effect (deed.Instruction code bit27) = false
is_entrybound_effect deed.Entry = false
is_entrybound_effect deed.Segdef = false
is_entrybound_effect deed.Equ = false
is_entrybound_effect deed.Use = false
is_entrybound_effect deed.Words = false
is_entrybound_effect deed.Zero = false
is_entrybound_effect deed.Block = false
is_entrybound_effect deed.Even = false
is_entrybound_effect deed.Bound = true

-- whether a line is `entrybound`
unfoldable pub is_entrybound : Line36 → Bool
is_entrybound line = is_entrybound_effect line.deed

-- ---- the relation

-- Each line is in the text or in static words, which are all of one kind in a source.
abbrev pub SectionsAreOneKind : Source → Type 0
SectionsAreOneKind source =
    (above : List Line36) (line : Line36) (others : List Line36) → IsSplit source above line others
    → ((spot_after source above).section ≡ Text) ⊎
    ((spot_after source above).section ≡ static_section (tables_of_source source).uses_outer)

-- The words of each line of a section are in the words of the section, after those that the lines
-- above it place there.
abbrev pub PlacesWordsIn : Source → Section → List ℕ → Type 0
PlacesWordsIn source section words =
    (above : List Line36) (line : Line36) (others : List Line36) → IsSplit source above line others
    → (spot_after source above).section ≡ section
    → OccursAfter (count_in section (spot_after source above)) (words_placed source above line)
    words

-- `PlacesWordsIn` holds of the text.
abbrev pub PlacesText : Source → PartsFields → Type 0
PlacesText source parts = PlacesWordsIn source Text parts.text

-- `PlacesWordsIn` holds of the static words, in the section that has them.
abbrev pub PlacesStatics : Source → PartsFields → Type 0
PlacesStatics source parts =
    PlacesWordsIn source (static_section (tables_of_source source).uses_outer) parts.statics

-- The number of static words of an object, of which lines place n. In version 1, which is false
-- here, it is rounded up to an even number.
abbrev pub padded_static_count : Bool → ℕ → ℕ
padded_static_count true n = n
padded_static_count false n = rounded_up_to_even n

-- the words after the n static words that lines place: in version 1 a zero word if n is odd
abbrev pub padding_words : Bool → ℕ → List ℕ
padding_words true n = []
padding_words false n = replicate (n % 2) 0

-- the number of static words that the lines place
abbrev pub static_count : Source → ℕ
static_count source =
    count_in (static_section (tables_of_source source).uses_outer) (spot_after source source.lines)

-- The sum of each label is the place of its line.
abbrev pub LabelSumsAreTheirPlaces : Source → Type 0
LabelSumsAreTheirPlaces source =
    (above : List Line36) (line : Line36) (others : List Line36) → IsSplit source above line others
    → (before : List Span) (span : Span) (after : List Span) → line.labels ≡ before ++ span ∷ after
    → sum_named (name_at source.text span) (tables_of_source source).symbols
    ≡ Some (here (spot_after source above))

-- the symbols that are defined above the operation of a line: those of the lines above, and its
-- labels
abbrev pub symbols_above : Source → List Line36 → Line36 → List (List ℕ × Sum)
symbols_above source above line =
    symbols_with_labels source.text (symbols_from source.text [] start above)
    (spot_after source above) line

-- The sum of the symbol of each `equ` is its number by the symbols above, and that of each `bss` is
-- the place of its line.
abbrev pub DefinedSymbolSums : Source → Type 0
DefinedSymbolSums source =
    (above : List Line36) (line : Line36) (others : List Line36) → IsSplit source above line others
    → (span : Span) → defined_symbol line.deed line.args ≡ Some span
    → sum_named (name_at source.text span) (tables_of_source source).symbols
    ≡ Some
    (defined_symbol_sum source.text (symbols_above source above line)
    (spot_after source above) line line.deed)

-- whether an operand is external
abbrev pub is_external : Option Arg → Bool
is_external (Some (arg.Symbol span)) = false
is_external (Some (arg.Number word)) = false
is_external (Some (arg.Chars words)) = false
is_external (Some (arg.Plain terms)) = false
is_external (Some (arg.Operand pr segment entry terms tag)) = is_some segment
is_external None = false

-- Each external operand is a link, and the list of links has it.
abbrev pub HasEachLink : Source → PartsFields → Type 0
HasEachLink source parts =
    (above : List Line36) (line : Line36) (others : List Line36) → IsSplit source above line others
    → is_external (first_arg (operand_args line.deed line.args)) ≡ true
    → (link : LinkFields)
    × (link_in source.text (tables_of_source source).symbols (spot_after source above)
    (first_arg (operand_args line.deed line.args))
    ≡ Some link)
    × (has_link link parts.links ≡ true)

-- No two links are the same.
unfoldable pub are_distinct_links : List LinkFields → Bool
are_distinct_links links = are_distinct_by same_link links

-- The entry bound is the place in the text of the last `entrybound` line, if there is one.
abbrev pub EntryBoundIsLast : Source → PartsFields → Type 0
EntryBoundIsLast source parts =
    (above : List Line36) (line : Line36) (others : List Line36) → IsSplit source above line others
    → is_entrybound line ≡ true
    → list_any (is_entrybound) others ≡ false → parts.entry_bound ≡ (spot_after source above).text

-- The parts are the object of the lines.
pub record Assembles (source : Source) (parts : PartsFields) : Type 0 where
  pub sections : SectionsAreOneKind source
  pub text : PlacesText source parts
  pub statics : PlacesStatics source parts
  pub text_length : length parts.text ≡ (spot_after source source.lines).text
  pub statics_length :
      length parts.statics ≡ padded_static_count (tables_of_source source).uses_outer
      (static_count source)
  pub evening :
      OccursAfter (static_count source)
      (padding_words (tables_of_source source).uses_outer (static_count source)) parts.statics
  pub labels : LabelSumsAreTheirPlaces source
  pub own : DefinedSymbolSums source
  pub links : HasEachLink source parts
  pub links_in_order :
      parts.links ≡ links_from source.text (tables_of_source source).symbols [] start source.lines
  pub links_apart : are_distinct_links parts.links ≡ true
  -- operands refer to the links where the object has them
  pub links_at : (tables_of_source source).first_link ≡ first_link parts
  pub definitions :
      parts.definitions ≡ definitions_from source.text
      (tables_of_source source).symbols [] source.lines
  pub distinct : are_distinct (definition_names parts.definitions) ≡ true
  pub relocations :
      parts.relocations ≡ relocations_of source.text (tables_of_source source) source.lines
  pub rising : are_in_order parts.relocations ≡ true
  pub bound : EntryBoundIsLast source parts
  pub unbound : list_any (is_entrybound) source.lines ≡ false → parts.entry_bound ≡ 0
  pub version : parts.version ≡ version_of (list_any (is_use_static source.text) source.lines)
  pub fits : sections_fit parts ≡ true
