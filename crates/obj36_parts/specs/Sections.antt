-- The sections of an object: their numbers, their names, and which of two is the later.
use Rattle.std.specs.Prelude.{ℕ, Bool, true, false, nat_eq, nat_le, if◌then◌else◌, List, ◌++◌}
use Rattle.std.specs.Prelude.{codes}
use Rattle.obj36_parts.specs.declared.section.Section.{Section}
use Rattle.obj36_parts.specs.declared.section.Section.TheVariants.{Text, Linkage, Symbol, Static}

-- the class of a definition in a section
abbrev pub class_number : Section → ℕ
class_number Text = 0
class_number Linkage = 1
class_number Symbol = 2
class_number Static = 3

-- the number that is added to the class of an entry
abbrev pub entry_mark : ℕ
entry_mark = 8

-- the number of a section in links and relocations, which never refer to the symbol section
abbrev pub section_number : Section → ℕ
section_number Text = 0
section_number Linkage = 1
section_number Static = 2
section_number Symbol = 3

-- whether two sections are the same
abbrev pub same_section : Section → Section → Bool
same_section a b = nat_eq (section_number a) (section_number b)

-- the name of a section after `use`, and before its lines in a listing
abbrev pub section_name : Section → List ℕ
section_name Text = codes "text"
section_name Linkage = codes "link"
section_name Symbol = codes "symbol"
section_name Static = codes "static"

-- the name of a section as the segment of an operand
abbrev pub starred_section_name : Section → List ℕ
starred_section_name section = codes "*" ++ section_name section

-- whether a section is the text
abbrev pub is_text_section : Section → Bool
is_text_section Text = true
is_text_section Linkage = false
is_text_section Symbol = false
is_text_section Static = false

-- the order of sections for the sum of two values: text and symbol, then linkage, then static
abbrev pub rank : Section → ℕ
rank Text = 0
rank Symbol = 0
rank Linkage = 1
rank Static = 2

-- The section relative to which the value of a link to a definition counts: the later of both.
abbrev pub later_section : Section → Section → Section
later_section a b = if nat_le (rank a) (rank b) then b else a
