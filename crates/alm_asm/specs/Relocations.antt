-- Relocations: the parts of words whose expressions are places of a section, and the offsets of
-- links.
use Rattle.std.specs.Prelude.{ℕ, ◌%◌, ◌^◌, List, [], ◌∷◌, ◌++◌, Option, Some, None, if◌then◌else◌}
use Rattle.alm_tokens.specs.declared.span.Span.{Span}
use Rattle.alm_parse.specs.declared.args.Arg.{Arg}
use Rattle.alm_parse.specs.declared.args.Arg.TheVariants as arg
use Rattle.alm_parse.specs.declared.line.Line36.{Line36}
use Rattle.obj36_parts.specs.declared.section.Section.{Section}
use Rattle.obj36_parts.specs.declared.section.Section.TheVariants.{Linkage}
use Rattle.obj36_parts.specs.Fields.{RelocFields}
use Rattle.obj36_parts.specs.ObjectSegment.{left_part, right_part, offset_part}
use Rattle.alm_lines.specs.Sums.{kind_of}
use Rattle.alm_lines.specs.Arguments.{first_arg, second_arg, terms_in}
use Rattle.alm_lines.specs.Spots.{place, next_line_spot}
use Rattle.alm_lines.specs.Expressions.{sum_of}
use Rattle.obj36_parts.specs.Sections.{same_section}
use Rattle.alm_lines.specs.declared.sum.Sum.{Sum}
use Rattle.alm_lines.specs.declared.sum.Kind.{Kind}
use Rattle.alm_lines.specs.declared.sum.Kind.TheVariants.{Absolute, Moved, Inexpressible}
use Rattle.alm_lines.specs.SpotFields.{LocationCounter}
use Rattle.alm_parse.specs.declared.deed.LineEffect.{LineEffect}
use Rattle.alm_parse.specs.declared.deed.LineEffect.TheVariants as deed

-- The relocation of a part of the word at this place, as a list: it has one if the value of the
-- part is a place of a section.
abbrev pub relocation_of_part : LocationCounter → ℕ → Kind → List RelocFields
relocation_of_part spot part Absolute = []
relocation_of_part spot part (Moved target) =
    record {
      section = spot.section;
      offset = place spot % 2 ^ 18;
      part = part;
      target = target;
    } ∷ []
relocation_of_part spot part Inexpressible = []

-- The part of the word of an instruction that holds the value of its operand: bits 3 to 17 for an
-- external operand or after a pointer register, and otherwise the left half.
abbrev pub operand_part : Option ℕ → Option Span → ℕ
operand_part pr (Some segment) = offset_part
operand_part (Some pr) None = offset_part
operand_part None None = left_part

-- the kind of the value in the word of an operand: a place of the linkage section for an external
-- one, otherwise that of its expression
abbrev pub operand_value_kind : Option Span → Kind → Kind
operand_value_kind (Some segment) kind = Moved Linkage
operand_value_kind None kind = kind

-- the kind of the value in the word of an operand with this segment and the sum of its expression
abbrev pub operand_kind : Option Span → Sum → Kind
operand_kind segment sum = operand_value_kind segment (kind_of sum)

-- the relocation of the operand of an instruction, as a list, which is empty if it has none
abbrev pub operand_relocation :
    List ℕ → List (List ℕ × Sum) → LocationCounter → Option Arg → List RelocFields
operand_relocation text symbols spot (Some (arg.Symbol span)) = []
operand_relocation text symbols spot (Some (arg.Number word)) = []
operand_relocation text symbols spot (Some (arg.Chars words)) = []
operand_relocation text symbols spot (Some (arg.Plain terms)) = []
operand_relocation text symbols spot (Some (arg.Operand pr segment entry terms tag)) =
    relocation_of_part spot (operand_part pr segment)
    (operand_kind segment (sum_of text symbols spot terms))
operand_relocation text symbols spot None = []

-- the relocations, with those of the words of a line with this operation
abbrev pub with_line_relocations :
    List ℕ → List (List ℕ × Sum) → LocationCounter → List RelocFields → List Arg → LineEffect
    → List RelocFields
with_line_relocations text symbols spot marks arguments deed.Nothing = marks
with_line_relocations text symbols spot marks arguments (deed.Instruction code bit27) =
    marks ++ operand_relocation text symbols spot (first_arg arguments)
with_line_relocations text symbols spot marks arguments deed.Entry = marks
with_line_relocations text symbols spot marks arguments deed.Segdef = marks
with_line_relocations text symbols spot marks arguments deed.Equ = marks
with_line_relocations text symbols spot marks arguments deed.Use = marks
with_line_relocations text symbols spot marks arguments deed.Words = marks
with_line_relocations text symbols spot marks arguments deed.Zero =
    marks
    ++ relocation_of_part spot left_part
    (kind_of (sum_of text symbols spot (terms_in (first_arg arguments))))
    ++ relocation_of_part spot right_part
    (kind_of (sum_of text symbols spot (terms_in (second_arg arguments))))
with_line_relocations text symbols spot marks arguments deed.Block = marks
with_line_relocations text symbols spot marks arguments deed.Even = marks
with_line_relocations text symbols spot marks arguments deed.Bound = marks

-- the relocations, with those of the words of a line, if it is in this section
unfoldable pub relocations_after :
    List ℕ → List (List ℕ × Sum) → Section → List RelocFields → LocationCounter
    → Line36 → List RelocFields
relocations_after text symbols section marks spot line =
    if same_section spot.section section
    then with_line_relocations text symbols spot marks line.args line.deed
    else marks

-- the relocations of the lines in a section, after those so far
unfoldable pub relocations_from :
    List ℕ → List (List ℕ × Sum) → Section → List RelocFields → LocationCounter
    → List Line36 → List RelocFields
relocations_from text symbols section marks spot [] = marks
relocations_from text symbols section marks spot (line ∷ lines) =
    relocations_from text symbols section (relocations_after text symbols section marks spot line)
    (next_line_spot text spot line) lines
