-- The target of a link, or the code with which it is refused.
use Rattle.std.specs.Prelude.{ℕ, ◌+◌, ◌%◌, ◌^◌, Bool, true, false, not, ◌&&◌, ◌||◌, nat_le}
use Rattle.std.specs.Prelude.{nat_lt, if◌then◌else◌, List, length, Option, Some, None, Result, Ok}
use Rattle.std.specs.Prelude.{Err}
use Rattle.m36_word.specs.declared.pair.Pair.{Pair}
use Rattle.m36_text.specs.Results.{and_then}
use Rattle.m36_desc.specs.Descriptors.{its_pair}
use Rattle.m36_model.specs.declared.endings.LinkCode.{LinkCode}
use Rattle.m36_model.specs.declared.endings.LinkCode.TheVariants.{L3, L4, L5, L6}
use Rattle.m36_dir.specs.Fields.{SegmentFields}
use Rattle.m36_dir.specs.declared.segment.SegKind.{SegKind}
use Rattle.m36_dir.specs.declared.segment.SegKind.TheVariants.{Object, Gate, Plain}
use Rattle.obj36_parts.specs.Fields.{DefFields, LinkFields}
use Rattle.obj36_parts.specs.PartsFields.{PartsFields}
use Rattle.obj36_parts.specs.Sections.{later_section}
use Rattle.obj36_parts.specs.ObjectSegment.{has_name, has_entry, linkage_section}
use Rattle.obj36_parts.specs.ObjectSegment.{definition_named, segment_limit}
use Rattle.obj36_parts.specs.declared.section.Section.{Section}
use Rattle.obj36_parts.specs.declared.section.Section.TheVariants.{Text, Linkage, Symbol, Static}
use Rattle.obj36.specs.ObjectOf.{object_of}
use Rattle.obj36.specs.declared.fault.ObjectFault.{ObjectFault}
use Rattle.obj36.specs.declared.fault.ObjectFault.TheVariants.{O1, O2, O3, O4, O5, O6, O7, O8}
use Rattle.obj36.specs.declared.fault.ObjectFault.TheVariants.{NoMemory}
use Rattle.m36_link.specs.Fields.{PlacedSectionFields, TargetFields}
use Rattle.m36_link.specs.Known.{linkage_segment, section_ring, laid_in, next_base_in_ring}
use Rattle.m36_link.specs.Known.{laid_words}
use Rattle.m36_link.specs.declared.points.ObjectPlace.{ObjectPlace}
use Rattle.m36_link.specs.declared.sections.Placement.{Placement}

-- ---- the place in an object that a link names

-- the section that a link's value refers to if its entry does not say
abbrev pub section_of : LinkFields → Section
section_of link = if has_name link.kind then Text else link.section

-- the place of this definition of the entry; L3 if the entry is not defined
abbrev pub object_place_by : Section → Option DefFields → Result ObjectPlace LinkCode
object_place_by section None = Err L3
object_place_by section (Some d) =
    Ok (record { section = later_section section d.section; value = d.value })

-- the place in its target object that a link names, or L3
unfoldable pub object_place_of : LinkFields → PartsFields → Result ObjectPlace LinkCode
object_place_of link o =
    if has_entry link.kind
    then object_place_by (section_of link) (definition_named link.entry o.definitions)
    else Ok (record { section = section_of link; value = 0 })

-- ---- the pair

-- the pair to a word of a segment, with the ring and the modifier of the link
unfoldable pub pair_to : ℕ → ℕ → ℕ → LinkFields → Pair
pair_to seg ring word link =
    its_pair (record { seg = seg; ring = ring; word = word % 2 ^ 18; bit = 0; tag = link.modifier })

-- A value is relative to word 0 of the segment or, in a laid section, to its place: in the linkage
-- section to its first word, and in the static section to the word after the linkage section,
-- which has `linkage` words.
abbrev pub pair_from : Section → ℕ → ℕ → PlacedSectionFields → ℕ → LinkFields → Pair
pair_from Text value ring l linkage link = pair_to l.seg ring (value + link.expr) link
pair_from Symbol value ring l linkage link = pair_to l.seg ring (value + link.expr) link
pair_from Linkage value ring l linkage link =
    pair_to (linkage_segment l.ring) ring (l.base + value + link.expr) link
pair_from Static value ring l linkage link =
    pair_to (linkage_segment l.ring) ring
    (l.base + linkage + value + link.expr) link

-- the pair to a place of an object whose section is laid
unfoldable pub pair_of : ObjectPlace → ℕ → PlacedSectionFields → ℕ → LinkFields → Pair
pair_of point ring l linkage link = pair_from point.section point.value ring l linkage link

-- ---- the section of a segment in a ring: laid already, or to be laid after the others

-- a new section at this word number with this many words; L6 if it would end past the linkage
-- segment
abbrev pub new_placement : ℕ → ℕ → ℕ → ℕ → Result Placement LinkCode
new_placement ring seg base size =
    if nat_le (base + size) segment_limit then
    Ok (record {
      section = record { ring = ring; seg = seg; base = base; size = size };
      is_new = true;
    })
    else Err (L6 base size)

-- the section that is laid already, or a new one
abbrev pub placement_by :
    Option PlacedSectionFields → List PlacedSectionFields → ℕ → ℕ → PartsFields
    → Result Placement LinkCode
placement_by (Some l) laid ring seg o = Ok (record { section = l; is_new = false })
placement_by None laid ring seg o =
    new_placement ring seg (next_base_in_ring laid ring) (length (laid_words o))

-- the section of a segment in a ring, and whether it still has to be laid; or L6
unfoldable pub placement_of :
    List PlacedSectionFields → ℕ → ℕ → PartsFields → Result Placement LinkCode
placement_of laid ring seg o = placement_by (laid_in laid ring seg) laid ring seg o

-- ---- types 1 and 5: the link's own object, whose section has the link

-- the target of a link to its own object, given the place that it names
abbrev pub own_target_by :
    ℕ → PlacedSectionFields → PartsFields → LinkFields → Result ObjectPlace LinkCode
    → Result TargetFields LinkCode
own_target_by ring l o link found =
    and_then found
    (λ point.
    Ok (record {
      pair = pair_of point ring l (length (linkage_section o)) link;
      target = l.seg;
      lay = None;
    }))

-- the target of a link of type 1 or 5
unfoldable pub own_target : ℕ → PlacedSectionFields → PartsFields → LinkFields
    → Result TargetFields LinkCode
own_target ring l o link = own_target_by ring l o link (object_place_of link o)

-- ---- types 3 and 4: a segment that was found

-- the ring may not use the segment (L4): it is above R3, or above R2 and the segment is not
-- executable
abbrev pub may_not_use : ℕ → SegmentFields → Bool
may_not_use ring s = nat_lt s.r3 ring || (nat_lt s.r2 ring && not s.mode.executable)

-- the segment is plain words, neither an object nor a gate
abbrev pub is_plain : SegKind → Bool
is_plain Plain = true
is_plain Object = false
is_plain Gate = false

-- the number of the first fault of an object, as L5 reports it: 1 for O1, and so on
abbrev pub fault_number : ObjectFault → ℕ
fault_number (O1 at) = 1
fault_number (O2 at) = 2
fault_number (O3 at) = 3
fault_number (O4 at) = 4
fault_number (O5 at) = 5
fault_number (O6 at) = 6
fault_number (O7 at) = 7
fault_number (O8 at) = 8
fault_number NoMemory = 0

-- the target of a link to a segment of plain words, for which no section is laid; they define no
-- entries, so L3 if the link has one
unfoldable pub plain_target : ℕ → ℕ → LinkFields → Result TargetFields LinkCode
plain_target ring seg link =
    if has_entry link.kind then Err L3
    else Ok (record { pair = pair_to seg ring link.expr link; target = seg; lay = None })

-- the section that has to be laid: this one if it is new (true), and otherwise none
abbrev pub section_if_new : Bool → PlacedSectionFields → Option PlacedSectionFields
section_if_new true l = Some l
section_if_new false l = None

-- the target of a link to an object, given the place that it names and the object's section
abbrev pub target_in_section :
    ℕ → ℕ → PartsFields → LinkFields → ObjectPlace → Result Placement LinkCode
    → Result TargetFields LinkCode
target_in_section ring seg o link point found =
    and_then found
    (λ home.
    Ok (record {
      pair = pair_of point ring home.section (length (linkage_section o)) link;
      target = seg;
      lay = section_if_new home.is_new home.section;
    }))

-- as `target_in_section`, given the place or its refusal, and all sections that are laid
abbrev pub target_at_place : List PlacedSectionFields → ℕ → ℕ → ℕ → PartsFields → LinkFields
    → Result ObjectPlace LinkCode → Result TargetFields LinkCode
target_at_place laid ring section_ring seg o link found =
    and_then found (λ point. target_in_section ring seg o link point
    (placement_of laid section_ring seg o))

-- the target of a link to the object in segment `seg`, whose section is in the ring `section_ring`,
-- which may differ from that of the link
unfoldable pub object_target : List PlacedSectionFields → ℕ → ℕ → ℕ → PartsFields → LinkFields
    → Result TargetFields LinkCode
object_target laid ring section_ring seg o link =
    target_at_place laid ring section_ring seg o link (object_place_of link o)

-- the target of a link to a segment that should be an object, by the object in its file; L5 if the
-- file is not an object
abbrev pub target_by_object : List PlacedSectionFields → ℕ → ℕ → SegmentFields → LinkFields
    → Result PartsFields ObjectFault → Result TargetFields LinkCode
target_by_object laid ring seg s link (Err fault) = Err (L5 (fault_number fault))
target_by_object laid ring seg s link (Ok o) =
    object_target laid ring (section_ring ring s) seg o link

-- the target of a link of type 3 or 4 to the segment that was found
unfoldable pub segment_target :
    List PlacedSectionFields → ℕ → ℕ → SegmentFields → List ℕ → LinkFields
    → Result TargetFields LinkCode
segment_target laid ring seg s words link =
    if may_not_use ring s then Err L4
    else if is_plain s.kind then plain_target ring seg link
    else target_by_object laid ring seg s link (object_of words)
