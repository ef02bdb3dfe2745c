-- The listing of a source: a line for each word that the source places, and then the print of the
-- object.
use Rattle.std.specs.Prelude.{ℕ, ◌+◌, List, [], ◌∷◌, ◌++◌, length, take, drop, if◌then◌else◌}
use Rattle.m36_text.specs.Digits.{decimal_text, word_text, half_text}
use Rattle.alm_parse.specs.declared.line.Line36.{Line36}
use Rattle.alm_parse.specs.SourceFields.{Source}
use Rattle.obj36_parts.specs.declared.section.Section.{Section}
use Rattle.obj36_parts.specs.declared.section.Section.TheVariants.{Text, Linkage, Static}
use Rattle.obj36_parts.specs.PartsFields.{PartsFields}
use Rattle.obj36_parts.specs.Sections.{section_name, same_section}
use Rattle.obj36_parts.specs.ObjectSegment.{inner_statics, outer_statics}
use Rattle.alm_lines.specs.SpotFields.{LocationCounter}
use Rattle.alm_lines.specs.Spots.{start, offset_in_section, place, size_of, next_line_spot}
use Rattle.m36_list.specs.Print.{line, print_of}

-- The line of a placed word: the name of its section, its offset there, the word, and the number of
-- the source line in decimal.
unfoldable pub placed_line : List ℕ → ℕ → ℕ → ℕ → List ℕ
placed_line name number at w =
    line (name ∷ half_text at ∷ word_text w ∷ decimal_text number ∷ [])

-- the lines of words that one line of the source, with this number, places, from an offset on
unfoldable pub placed_lines : List ℕ → ℕ → ℕ → List ℕ → List ℕ
placed_lines name number at [] = []
placed_lines name number at (w ∷ ws) =
    placed_line name number at w ++ placed_lines name number (at + 1) ws

-- the number of words that a line places in a section
unfoldable pub size_in : Section → List ℕ → LocationCounter → Line36 → ℕ
size_in section text spot row =
    if same_section spot.section section then size_of row.deed row.args (place spot) else 0

-- the lines of the words of a section, from an offset on, each with the number of the line of the
-- source that places it
unfoldable pub section_words :
    List ℕ → Section → List ℕ → ℕ → List ℕ → LocationCounter → List Line36 → List ℕ
section_words name section text at words spot [] = []
section_words name section text at words spot (row ∷ lines) =
    let here = take (size_in section text spot row) words in
    let left = drop (size_in section text spot row) words in
    placed_lines name row.line at here
    ++ section_words name section text (at + length here) left (next_line_spot text spot row) lines

-- the lines of the words of a section, the first of which is at the offset of its first line
abbrev pub section_listing : List ℕ → Section → Source → List ℕ → List ℕ
section_listing name section source words =
    section_words name section source.text (offset_in_section section start) words start
    source.lines

-- The listing of a source and of the object of these parts, under this name: the lines of the text,
-- of the static words of the linkage section, and of those of a static section; then the print.
unfoldable pub listing_of : List ℕ → Source → PartsFields → List ℕ
listing_of name source p =
    section_listing (section_name Text) Text source p.text
    ++ section_listing (section_name Linkage) Linkage source (inner_statics p)
    ++ section_listing (section_name Static) Static source (outer_statics p)
    ++ print_of name p
