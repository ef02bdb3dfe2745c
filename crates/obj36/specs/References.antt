-- The text of a reference, as the assembler reads it: a segment or a section of the own object, a
-- dollar sign, and the entry.
use Rattle.std.specs.Prelude.{ℕ, List, [], ◌++◌, codes, if◌then◌else◌}
use Rattle.obj36_parts.specs.Fields.{LinkFields}
use Rattle.obj36_parts.specs.Sections.{starred_section_name}
use Rattle.obj36_parts.specs.ObjectSegment.{has_name, has_entry}

-- the text before the dollar sign: a segment, or a section of the object itself
abbrev pub reference_subject : LinkFields → List ℕ
reference_subject l = if has_name l.kind then l.name else starred_section_name l.section

-- the text after the dollar sign: the entry, or nothing
abbrev pub reference_entry : LinkFields → List ℕ
reference_entry l = if has_entry l.kind then l.entry else []

-- how a link is written: the segment, a dollar sign and the entry
unfoldable pub reference_text : LinkFields → List ℕ
reference_text l = reference_subject l ++ codes "$" ++ reference_entry l
