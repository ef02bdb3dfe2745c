-- Links: the external operands of instructions, each once, in the order of their first use.
use Rattle.std.specs.Prelude.{ℕ, ◌≡◌, ◌%◌, ◌^◌, true, List, [], ◌∷◌, Option, Some, None, unwrap_or}
use Rattle.std.specs.Prelude.{if◌then◌else◌}
use Rattle.std.specs.List.{position}
use Rattle.m36_text.specs.Once.{appended_unless}
use Rattle.alm_tokens.specs.Tokens.{slice_of}
use Rattle.alm_tokens.specs.declared.span.Span.{Span}
use Rattle.alm_tokens.specs.declared.expression.Term.{Term}
use Rattle.alm_parse.specs.declared.args.Arg.{Arg}
use Rattle.alm_parse.specs.declared.args.Arg.TheVariants as arg
use Rattle.alm_parse.specs.declared.line.Line36.{Line36}
use Rattle.alm_parse.specs.Bodies.{own_section}
use Rattle.obj36_parts.specs.declared.section.Section.{Section}
use Rattle.obj36_parts.specs.declared.section.Section.TheVariants.{Text}
use Rattle.obj36_parts.specs.Fields.{LinkFields}
use Rattle.obj36_parts.specs.ObjectSegment.{to_section, to_segment, to_entry, to_own_entry}
use Rattle.obj36_parts.specs.ObjectSegment.{link_offset}
use Rattle.obj36_parts.specs.Indexes.{same_link, has_link}
use Rattle.alm_lines.specs.Sums.{half_of}
use Rattle.alm_lines.specs.Arguments.{name_at, first_arg}
use Rattle.alm_lines.specs.Spots.{next_line_spot}
use Rattle.alm_lines.specs.Expressions.{sum_of}
use Rattle.alm_lines.specs.Values.{has_number}
use Rattle.alm_lines.specs.declared.sum.Sum.{Sum}
use Rattle.alm_lines.specs.SpotFields.{LocationCounter}
use Rattle.alm_parse.specs.declared.deed.LineEffect.{LineEffect}
use Rattle.alm_parse.specs.declared.deed.LineEffect.TheVariants as deed

-- ---- a link

-- the type of a link: to a section of the object itself or to another segment, with an entry or
-- without
abbrev pub link_kind : Option Section → Option Span → ℕ
link_kind (Some section) None = to_section
link_kind (Some section) (Some entry) = to_own_entry
link_kind None None = to_segment
link_kind None (Some entry) = to_entry

-- the section of a link to the object itself; otherwise the text, which has no meaning
abbrev pub link_section : Option Section → Section
link_section (Some section) = section
link_section None = Text

-- the name of the segment of a link; a link to the object itself has none
abbrev pub link_name : Option Section → List ℕ → List ℕ
link_name (Some section) name = []
link_name None name = name

-- the name of the entry of a link; empty if it has none
abbrev pub entry_name : List ℕ → Option Span → List ℕ
entry_name text (Some span) = name_at text span
entry_name text None = []

-- the link of an external operand
unfoldable pub link_of :
    List ℕ → List (List ℕ × Sum) → LocationCounter → Span → Option Span → List Term → ℕ
    → LinkFields
link_of text symbols spot segment entry terms tag =
    record {
      kind = link_kind (own_section (slice_of text segment)) entry;
      section = link_section (own_section (slice_of text segment));
      name = link_name (own_section (slice_of text segment)) (name_at text segment);
      entry = entry_name text entry;
      expr = half_of (sum_of text symbols spot terms).value;
      modifier = tag % 2 ^ 6;
    }

-- ---- the links of lines

-- the operand of an instruction; other operations have none
abbrev pub operand_args : LineEffect → List Arg → List Arg
operand_args deed.Nothing arguments = []
operand_args (deed.Instruction code bit27) arguments = arguments
operand_args deed.Entry arguments = []
operand_args deed.Segdef arguments = []
operand_args deed.Equ arguments = []
operand_args deed.Use arguments = []
operand_args deed.Words arguments = []
operand_args deed.Zero arguments = []
operand_args deed.Block arguments = []
operand_args deed.Even arguments = []
operand_args deed.Bound arguments = []

-- The link of an operand with these parts. It is a link if it names a segment and its expression
-- has a value.
abbrev pub link_of_parts :
    List ℕ → List (List ℕ × Sum) → LocationCounter → Option Span → Option Span → List Term → ℕ
    → Option LinkFields
link_of_parts text symbols spot (Some segment) entry terms tag =
    if has_number text symbols spot terms
    then Some (link_of text symbols spot segment entry terms tag)
    else None
link_of_parts text symbols spot None entry terms tag = None

-- the link of an operand, if it is external and its expression has a value
abbrev pub link_in : List ℕ → List (List ℕ × Sum) → LocationCounter → Option Arg → Option LinkFields
link_in text symbols spot (Some (arg.Symbol span)) = None
link_in text symbols spot (Some (arg.Number word)) = None
link_in text symbols spot (Some (arg.Chars words)) = None
link_in text symbols spot (Some (arg.Plain terms)) = None
link_in text symbols spot (Some (arg.Operand pr segment entry terms tag)) =
    link_of_parts text symbols spot segment entry terms tag
link_in text symbols spot None = None

-- the links with one more at the end, if there is one and they do not have it
abbrev pub with_link : List LinkFields → Option LinkFields → List LinkFields
with_link links None = links
with_link links (Some link) = appended_unless (has_link link links) links link

-- the links with that of a line
unfoldable pub links_after :
    List ℕ → List (List ℕ × Sum) → List LinkFields → LocationCounter → Line36
    → List LinkFields
links_after text symbols links spot line =
    with_link links (link_in text symbols spot (first_arg (operand_args line.deed line.args)))

-- the links of the lines, after those so far
unfoldable pub links_from :
    List ℕ → List (List ℕ × Sum) → List LinkFields → LocationCounter → List Line36
    → List LinkFields
links_from text symbols links spot [] = links
links_from text symbols links spot (line ∷ lines) =
    links_from text symbols (links_after text symbols links spot line)
    (next_line_spot text spot line) lines

-- Each link of the first list has the same index in the second.
abbrev pub KeepsIndexes : List LinkFields → List LinkFields → Type 0
KeepsIndexes old new =
    (link : LinkFields) → has_link link old ≡ true
    → position (same_link link) new ≡ position (same_link link) old

-- ---- the place of a link

-- The offset of a link in the linkage section, if the first link is at `first`. A link that the
-- list does not have counts as the first.
unfoldable pub offset_of_link_in : List LinkFields → ℕ → LinkFields → ℕ
offset_of_link_in links first link =
    link_offset first (unwrap_or (position (same_link link) links) 0)
