-- The print of an object: lines of fields, which single spaces separate. Numbers are octal, of six
-- digits unless something else is said.
use Rattle.std.specs.Prelude.{ℕ, ◌+◌, List, [], ◌∷◌, ◌++◌, length, codes, if◌then◌else◌}
use Rattle.std.specs.List.{flat_map}
use Rattle.m36_text.specs.Digits.{octal_text, decimal_text, word_text, half_text}
use Rattle.m36_text.specs.Lines.{as_line, joined_by_spaces}
use Rattle.obj36_parts.specs.Fields.{LinkFields}
use Rattle.obj36_parts.specs.PartsFields.{PartsFields}
use Rattle.obj36_parts.specs.ObjectSegment.{is_newer, outer_statics, first_link, words_of}
use Rattle.obj36_parts.specs.ObjectSegment.{definition_section, linkage_section, symbol_section}
use Rattle.obj36_parts.specs.ObjectSegment.{linkage_at, statics_at, symbol_at}
use Rattle.obj36_parts.specs.declared.section.Section.{Section}
use Rattle.obj36_parts.specs.declared.section.Section.TheVariants.{Text, Linkage, Symbol, Static}
use Rattle.obj36_parts.specs.declared.definition.Named.{Named}
use Rattle.obj36.specs.References.{reference_text}
use Rattle.m36_list.specs.Disassembly.{disassembly}

-- a line of fields
unfoldable pub line : List (List ℕ) → List ℕ
line fields = as_line (joined_by_spaces fields)

-- the line with the name and the number of words of an object, in decimal
abbrev pub object_line : List ℕ → PartsFields → List ℕ
object_line name p = line (codes "object" ∷ name ∷ decimal_text (length (words_of p)) ∷ [])

-- the name of a section, also as the class of a definition
abbrev pub section_text : Section → List ℕ
section_text Text = codes "text"
section_text Linkage = codes "linkage"
section_text Symbol = codes "symbol"
section_text Static = codes "static"

-- the line of a section: its name, its offset in the object, and its number of words
abbrev pub section_line : List ℕ → ℕ → ℕ → List ℕ
section_line name at len = line (name ∷ half_text at ∷ half_text len ∷ [])

-- the offset of the linkage section in the object
abbrev pub linkage_offset : PartsFields → ℕ
linkage_offset p = linkage_at (length p.text) (length (definition_section p))

-- the offset of the static section
abbrev pub statics_offset : PartsFields → ℕ
statics_offset p =
    statics_at (length p.text) (length (definition_section p)) (length (linkage_section p))

-- the offset of the symbol section
abbrev pub symbol_offset : PartsFields → ℕ
symbol_offset p =
    symbol_at (length p.text) (length (definition_section p)) (length (linkage_section p))
    (length (outer_statics p))

-- the line of the static section, which only version 2 has
abbrev pub static_line : PartsFields → List ℕ
static_line p =
    if is_newer p then section_line (section_text Static) (statics_offset p)
    (length p.statics) else []

-- a line with a name, and a number of 18 bits in octal
abbrev pub value_line : List ℕ → ℕ → List ℕ
value_line name v = line (name ∷ half_text v ∷ [])

-- the lines of the sections, and of the entry bound
unfoldable pub section_lines : PartsFields → List ℕ
section_lines p =
    section_line (section_text Text) 0 (length p.text)
    ++ section_line (codes "definition") (length p.text) (length (definition_section p))
    ++ section_line (section_text Linkage) (linkage_offset p) (length (linkage_section p))
    ++ static_line p
    ++ section_line (section_text Symbol) (symbol_offset p) (length (symbol_section p))
    ++ value_line (codes "entrybound") p.entry_bound

-- the fields of the line of a definition except `entry`: `def`, its name, its section and its value
abbrev pub definition_fields : Named → List (List ℕ)
definition_fields d =
    codes "def" ∷ d.name ∷ section_text d.def.section ∷ half_text d.def.value ∷ []

-- the line of a definition, with `entry` at the end if it is one
unfoldable pub definition_line : Named → List ℕ
definition_line d =
    line (if d.def.is_entry then definition_fields d ++ codes "entry" ∷ [] else definition_fields d)

-- The line of a link at an offset of the linkage section: its reference, the number that is added,
-- and its modifier in two digits.
unfoldable pub link_line : ℕ → LinkFields → List ℕ
link_line at l =
    line
    (codes "link" ∷ half_text at ∷ reference_text l ∷ half_text l.expr
    ∷ octal_text 2 l.modifier ∷ [])

-- the lines of links, two words each, the first of which is at this offset
unfoldable pub link_lines : ℕ → List LinkFields → List ℕ
link_lines at [] = []
link_lines at (l ∷ ls) = link_line at l ++ link_lines (at + 2) ls

-- the line of a word of the text at an offset, with its disassembly
unfoldable pub word_line : ℕ → ℕ → List ℕ
word_line at w = line (half_text at ∷ word_text w ∷ disassembly w ∷ [])

-- the lines of words of the text, the first of which is at this offset
unfoldable pub word_lines : ℕ → List ℕ → List ℕ
word_lines at [] = []
word_lines at (w ∷ ws) = word_line at w ++ word_lines (at + 1) ws

-- the print of an object, under this name
unfoldable pub print_of : List ℕ → PartsFields → List ℕ
print_of name p =
    object_line name p ++ section_lines p ++ flat_map definition_line p.definitions
    ++ link_lines (first_link p) p.links ++ word_lines 0 p.text
