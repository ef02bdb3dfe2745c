-- Faults of the map of a list of words, and of the sections that it describes.
use Rattle.std.specs.Prelude.{ℕ, zero, suc, ◌+◌, ◌-◌, Bool, ◌&&◌, ◌||◌, not, nat_eq, nat_lt, nat_le}
use Rattle.std.specs.Prelude.{if◌then◌else◌, List, [], ◌∷◌, length, take, drop, slice_index, Option}
use Rattle.std.specs.Prelude.{Some, None}
use Rattle.m36_word.specs.Bits.{of_bit}
use Rattle.m36_text.specs.Lines.{first_true_case}
use Rattle.obj36_parts.specs.Halves.{left, right}
use Rattle.obj36_parts.specs.ObjectSegment.{is_newer_version, head_words}
use Rattle.obj36_parts.specs.ObjectSegment.{definition_head_words, symbol_head_words}
use Rattle.obj36_read.specs.Reading.{older_map_words, newer_map_words, map_index, map_word}
use Rattle.obj36_read.specs.Reading.{version_in}
use Rattle.obj36_read.specs.Reading.{section_length_in_map, text_index, definition_index}
use Rattle.obj36_read.specs.Reading.{linkage_index, statics_index}
use Rattle.obj36_read.specs.Reading.{symbol_index, bound_index}
use Rattle.obj36_read.specs.declared.map.Extent.{Extent}
use Rattle.obj36_read.specs.declared.map.Extents.{Extents}

-- ---- the map: O2

-- Whether the last word locates a map: from there to the end there are as many words as a map of
-- either version has, with the last word.
unfoldable pub locates_map : List ℕ → Bool
locates_map words =
    nat_eq (map_index words + older_map_words) (length words)
    || nat_eq (map_index words + newer_map_words) (length words)

-- Whether the map word with the entry bound is valid: its right half is 0, and the bound is at most
-- the length of the text.
unfoldable pub is_valid_entry_bound : List ℕ → ℕ → Bool
is_valid_entry_bound words bound =
    nat_eq (right bound) 0
    && nat_le (left bound) (section_length_in_map words text_index)

-- The first invalid word of a map with a valid length. Its first word has only the version. Its
-- last word has 0 in its right half.
unfoldable pub map_word_fault : List ℕ → ℕ → Option ℕ
map_word_fault words version =
    first_true_case (
    (not (nat_eq (slice_index words (map_index words)) version), map_index words)
    ∷ (
      not (is_valid_entry_bound words (map_word words (bound_index version))),
      map_index words + bound_index version,
    )
    ∷ (not (nat_eq (right (slice_index words (length words - 1))) 0), length words - 1)
    ∷ []
    )

-- the first word with which O2 refuses a list
unfoldable pub map_fault : List ℕ → Option ℕ
map_fault words =
    if locates_map words then map_word_fault words (version_in words) else Some (length words - 1)

-- ---- sections that end past the map or are too short: O3

-- where the section begins that word i of the map describes, and its length
unfoldable pub extent_at : List ℕ → ℕ → Extent
extent_at words i = record {
  from = left (map_word words i);
  count = section_length_in_map words i;
}

-- an absent section
abbrev pub absent_extent : Extent
absent_extent = record { from = 0; count = 0 }

-- where the sections of a list are; version 1 has no static section
unfoldable pub extents_of : List ℕ → Extents
extents_of words =
    record {
      text = extent_at words text_index;
      definition = extent_at words definition_index;
      linkage = extent_at words linkage_index;
      statics =
          if is_newer_version (version_in words) then extent_at words statics_index else
          absent_extent;
      symbol = extent_at words (symbol_index (version_in words));
    }

-- whether a section ends past the map, which begins at `map`, or has fewer than `least` words
unfoldable pub is_bad_extent : ℕ → Extent → ℕ → Bool
is_bad_extent map e least = nat_lt map (e.from + e.count) || nat_lt e.count least

-- the first word of the map with which O3 refuses a list
unfoldable pub section_fault : List ℕ → Option ℕ
section_fault words =
    let map = map_index words in
    let e = extents_of words in
    first_true_case (
    (is_bad_extent map e.text 0, map + text_index)
    ∷ (is_bad_extent map e.definition definition_head_words, map + definition_index)
    ∷ (is_bad_extent map e.linkage head_words, map + linkage_index)
    ∷ (is_bad_extent map e.statics 0, map + statics_index)
    ∷ (is_bad_extent map e.symbol symbol_head_words, map + symbol_index (version_in words))
    ∷ []
    )

-- ---- sections that share words: O4

-- whether a section has the word at an index
unfoldable pub covers : Extent → ℕ → Bool
covers e at = nat_le e.from at && nat_lt at (e.from + e.count)

-- the number of sections that have a word
unfoldable pub sections_covering : Extents → ℕ → ℕ
sections_covering e at =
    of_bit (covers e.text at) + of_bit (covers e.definition at) + of_bit (covers e.linkage at)
    + of_bit (covers e.statics at) + of_bit (covers e.symbol at)

-- the first of `count` words from `at` on that is in two sections
unfoldable pub first_shared_word : Extents → ℕ → ℕ → Option ℕ
first_shared_word e at zero = None
first_shared_word e at (suc count) =
    if nat_le 2 (sections_covering e at) then Some at else first_shared_word e (at + 1) count

-- the first word with which O4 refuses a list
unfoldable pub shared_fault : List ℕ → Option ℕ
shared_fault words = first_shared_word (extents_of words) 0 (map_index words)

-- ---- the words of a section

-- the words of a section, as far as the list has them
unfoldable pub extent_words : List ℕ → Extent → List ℕ
extent_words words e = take e.count (drop e.from words)
