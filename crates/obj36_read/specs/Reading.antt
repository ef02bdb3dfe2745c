-- Decodes the parts that a list of words may encode, by its lengths and counts alone: one section
-- after another, and each table in order. What this does not check, such as offsets, is checked by
-- encoding the parts again.
use Rattle.std.specs.Prelude.{ℕ, zero, suc, ◌+◌, ◌-◌, ◌/◌, ◌%◌, ◌^◌, nat_eq, nat_le}
use Rattle.std.specs.Prelude.{if◌then◌else◌, min, List, [], ◌∷◌, length, take, drop, slice_index}
use Rattle.m36_text.specs.Texts.{name_limit}
use Rattle.obj36_parts.specs.Fields.{LinkFields, RelocFields}
use Rattle.obj36_parts.specs.PartsFields.{PartsFields}
use Rattle.obj36_parts.specs.Halves.{left, right, quarter}
use Rattle.obj36_parts.specs.ObjectSegment.{is_newer_version, version_of, has_name, has_entry}
use Rattle.obj36_parts.specs.ObjectSegment.{head_words, definition_head_words, symbol_head_words}
use Rattle.obj36_parts.specs.Sections.{entry_mark}
use Rattle.obj36_parts.specs.ObjectSegment.{first_expression_at, section_unit}
use Rattle.obj36_parts.specs.ObjectSegment.{part_unit, target_unit}
use Rattle.obj36_parts.specs.declared.section.Section.{Section}
use Rattle.obj36_parts.specs.declared.section.Section.TheVariants.{Text, Linkage, Symbol, Static}
use Rattle.obj36_parts.specs.declared.definition.Named.{Named}

-- ---- names

-- part i of nine bits, counted from the left end of the word `at`
unfoldable pub quarter_at : List ℕ → ℕ → ℕ → ℕ
quarter_at words at i = quarter (slice_index words (at + i / 4)) (i % 4)

-- `count` characters from part i on, each of which keeps its low eight bits
unfoldable pub characters : List ℕ → ℕ → ℕ → ℕ → List ℕ
characters words at i zero = []
characters words at i (suc count) =
    quarter_at words at i % 2 ^ 8 ∷ characters words at (i + 1) count

-- the name at an index; a length over 32 is taken as 32
unfoldable pub name_at : List ℕ → ℕ → List ℕ
name_at words at = characters words at 1 (min (quarter_at words at 0) name_limit)

-- ---- sections by their numbers

-- the section of a definition with this number; numbers over 2 are the static section
unfoldable pub section_of_class_number : ℕ → Section
section_of_class_number zero = Text
section_of_class_number (suc zero) = Linkage
section_of_class_number (suc (suc zero)) = Symbol
section_of_class_number (suc (suc (suc n))) = Static

-- the section with this number in an expression or a relocation; numbers over 2 are the symbol
-- section
unfoldable pub section_with : ℕ → Section
section_with zero = Text
section_with (suc zero) = Linkage
section_with (suc (suc zero)) = Static
section_with (suc (suc (suc n))) = Symbol

-- ---- tables

-- the definition at an index of the definition section
unfoldable pub definition_at : List ℕ → ℕ → Named
definition_at words at =
    let first = right (slice_index words at) in
    let second = slice_index words (at + 1) in
    record {
      name = name_at words (right second);
      def = record {
        section = section_of_class_number (first % entry_mark);
        value = left second;
        is_entry = nat_le entry_mark first;
      };
    }

-- `count` definitions that follow one another, from an index on
unfoldable pub definitions_in : List ℕ → ℕ → ℕ → List Named
definitions_in words at zero = []
definitions_in words at (suc count) = definition_at words at ∷ definitions_in words (at + 2) count

-- a link, by its expression, at index `at` of the definition section, and its modifier, in the link
-- at index `place` of the linkage section
unfoldable pub link_at : List ℕ → ℕ → List ℕ → ℕ → LinkFields
link_at words at linkage place =
    let first = slice_index words at in
    let second = slice_index words (at + 1) in
    let kind = left first % 2 ^ 8 in
    record {
      kind = kind;
      section = if has_name kind then Text else section_with (right first);
      name = if has_name kind then name_at words (right first) else [];
      entry = if has_entry kind then name_at words (left second) else [];
      expr = right second;
      modifier = right (slice_index linkage (place + 1)) % 2 ^ 6;
    }

-- `count` links, whose expressions and link words each follow one another
unfoldable pub links_in : List ℕ → ℕ → List ℕ → ℕ → ℕ → List LinkFields
links_in words at linkage place zero = []
links_in words at linkage place (suc count) =
    link_at words at linkage place ∷ links_in words (at + 2) linkage (place + 2) count

-- the relocation that a word encodes
unfoldable pub relocation_in : ℕ → RelocFields
relocation_in w =
    record {
      section = section_with (right w / section_unit);
      offset = left w;
      part = right w / part_unit % 2 ^ 3;
      target = section_with (right w / target_unit % 2 ^ 3);
    }

-- `count` relocations that follow one another, from an index on
unfoldable pub relocations_in : List ℕ → ℕ → ℕ → List RelocFields
relocations_in words at zero = []
relocations_in words at (suc count) =
    relocation_in (slice_index words at) ∷ relocations_in words (at + 1) count

-- ---- the whole

-- the number of words of a map of version 1, with the last word
abbrev pub older_map_words : ℕ
older_map_words = 7

-- the number of words of a map of version 2, with the last word
abbrev pub newer_map_words : ℕ
newer_map_words = 8

-- the index in the map of the word that describes the text
abbrev pub text_index : ℕ
text_index = 1

-- the index in the map of the word that describes the definition section
abbrev pub definition_index : ℕ
definition_index = 2

-- the index in the map of the word that describes the linkage section
abbrev pub linkage_index : ℕ
linkage_index = 3

-- the index in the map of the word that describes the static section, which only version 2 has
abbrev pub statics_index : ℕ
statics_index = 4

-- the index in the map of the word that describes the symbol section, by the version
abbrev pub symbol_index : ℕ → ℕ
symbol_index version = if is_newer_version version then 5 else 4

-- the index in the map of the word with the entry bound, by the version
abbrev pub bound_index : ℕ → ℕ
bound_index version = if is_newer_version version then 6 else 5

-- the index of the map, which the last word has
unfoldable pub map_index : List ℕ → ℕ
map_index words = left (slice_index words (length words - 1))

-- the version, which depends on how far the map is from the end
unfoldable pub version_in : List ℕ → ℕ
version_in words = version_of (nat_eq (map_index words + newer_map_words) (length words))

-- word i of the map, counted from 0
abbrev pub map_word : List ℕ → ℕ → ℕ
map_word words i = slice_index words (map_index words + i)

-- the length of the section that word i of the map describes
unfoldable pub section_length_in_map : List ℕ → ℕ → ℕ
section_length_in_map words i = right (map_word words i)

-- a number of items, in the right half of word i of a section; it is reduced to the number of words
-- of the list
unfoldable pub count_of_items : List ℕ → List ℕ → ℕ → ℕ
count_of_items words part i = min (right (slice_index part i)) (length words)

-- the rest of the list from the definition section on
unfoldable pub from_definition : List ℕ → List ℕ
from_definition words = drop (section_length_in_map words text_index) words

-- the rest of the list from the linkage section on
unfoldable pub from_linkage : List ℕ → List ℕ
from_linkage words = drop (section_length_in_map words definition_index) (from_definition words)

-- the rest of the list after the linkage section
unfoldable pub from_statics : List ℕ → List ℕ
from_statics words = drop (section_length_in_map words linkage_index) (from_linkage words)

-- the rest of the list from the symbol section on
unfoldable pub from_symbol : List ℕ → List ℕ
from_symbol words =
    if is_newer_version (version_in words)
    then drop (section_length_in_map words statics_index) (from_statics words)
    else from_statics words

-- the offset of the first link, which word 1 of a linkage section has
unfoldable pub link_start : List ℕ → ℕ
link_start k = left (slice_index k 1)

-- the offset of the first link in the linkage section of a list
unfoldable pub first_link_in_head : List ℕ → ℕ
first_link_in_head words = link_start (from_linkage words)

-- the static words: in version 1 those before the links, and in version 2 those of the static
-- section
unfoldable pub statics_in : List ℕ → List ℕ
statics_in words =
    if is_newer_version (version_in words)
    then take (section_length_in_map words statics_index) (from_statics words)
    else take (first_link_in_head words - head_words) (drop head_words (from_linkage words))

-- the entry bound, which a word of the map has
unfoldable pub bound_in : List ℕ → ℕ
bound_in words = left (map_word words (bound_index (version_in words)))

-- the parts that a list may encode; if encoding them again yields another list, it encodes none
unfoldable pub parts_of : List ℕ → PartsFields
parts_of words =
    let definition = from_definition words in
    let count = count_of_items words definition 0 in
    record {
      text = take (section_length_in_map words text_index) words;
      statics = statics_in words;
      definitions = definitions_in definition definition_head_words count;
      links = links_in definition (first_expression_at count) (from_linkage words)
          (first_link_in_head words) (count_of_items words definition 1);
      relocations = relocations_in (from_symbol words) symbol_head_words
          (count_of_items words (from_symbol words) 0);
      entry_bound = bound_in words;
      version = version_in words;
    }
