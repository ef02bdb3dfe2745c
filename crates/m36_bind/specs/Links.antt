-- The links of the bound object: those of the components in their order. Equal links are not
-- joined.
use Rattle.std.specs.Prelude.{ℕ, ◌+◌, nat_eq, if◌then◌else◌, List, [], ◌∷◌, ◌++◌}
use Rattle.std.specs.Prelude.{Option, Some, None}
use Rattle.obj36_parts.specs.Fields.{LinkFields}
use Rattle.obj36_parts.specs.Sections.{later_section}
use Rattle.obj36_parts.specs.ObjectSegment.{to_section, to_segment, to_entry, to_own_entry}
use Rattle.m36_relocate.specs.Fields.{ShapeFields}
use Rattle.m36_relocate.specs.Layout.{section_place, relocated_place, text_word_place}
use Rattle.m36_relocate.specs.Exports.{export_named}
use Rattle.m36_bind.specs.Components.{PlacedComponentFields, relocation_of, component_named}
use Rattle.m36_relocate.specs.declared.exports.Export.{Export}
use Rattle.m36_relocate.specs.declared.layout.BoundPlace.{BoundPlace}

-- a link to a place of the bound object itself (type 1), with the modifier of the link that it
-- replaces
abbrev pub own_link : LinkFields → BoundPlace → LinkFields
own_link l s =
    record {
      kind = to_section;
      section = s.section;
      name = [];
      entry = [];
      expr = s.offset;
      modifier = l.modifier;
    }

-- the place n words farther in the section
abbrev pub offset_by : BoundPlace → ℕ → BoundPlace
offset_by s n = section_place s.section (s.offset + n)

-- What a link to a segment becomes: a link to word 0 of the text of the component, plus the number
-- of the link. It is unchanged if the segment is no component.
abbrev pub segment_link : LinkFields → Option PlacedComponentFields → LinkFields
segment_link l None = l
segment_link l (Some p) = own_link l (text_word_place p.bases l.expr)

-- What a link to an entry of a component becomes: a link to the new place of the definition, plus
-- the number of the link. It is unchanged if the component does not define the entry.
abbrev pub entry_link :
    ShapeFields → LinkFields → PlacedComponentFields → Option Export → LinkFields
entry_link frame l p None = l
entry_link frame l p (Some e) =
    own_link l (offset_by (relocated_place (relocation_of frame p) e.def.section e.def.value)
    l.expr)

-- what a link to an entry of another segment becomes; it is unchanged if that is no component
abbrev pub outer_link : ShapeFields → LinkFields → Option PlacedComponentFields → LinkFields
outer_link frame l None = l
outer_link frame l (Some p) = entry_link frame l p (export_named l.entry p.entries)

-- What a link to an entry of its own object becomes. The value of the definition is an offset in
-- the later of its section and that of the link.
abbrev pub inner_link :
    ShapeFields → PlacedComponentFields → LinkFields → Option Export → LinkFields
inner_link frame p l None = l
inner_link frame p l (Some e) =
    own_link l (offset_by
    (relocated_place (relocation_of frame p) (later_section l.section e.def.section) e.def.value)
    l.expr)

-- the link of the bound object that replaces a link of a component
unfoldable pub bound_link :
    ShapeFields → List PlacedComponentFields → PlacedComponentFields → LinkFields → LinkFields
bound_link frame all p l =
    if nat_eq l.kind to_section then own_link l
    (relocated_place (relocation_of frame p) l.section l.expr)
    else if nat_eq l.kind to_segment then segment_link l (component_named l.name all)
    else if nat_eq l.kind to_entry then outer_link frame l (component_named l.name all)
    else if nat_eq l.kind to_own_entry then inner_link frame p l (export_named l.entry p.entries)
    else l

-- the links of a component, after others
unfoldable pub links_onto :
    ShapeFields → List PlacedComponentFields → PlacedComponentFields → List LinkFields
    → List LinkFields → List LinkFields
links_onto frame all p done [] = done
links_onto frame all p done (l ∷ ls) =
    links_onto frame all p (done ++ bound_link frame all p l ∷ []) ls

-- the links of several components, after others
unfoldable pub links_from :
    ShapeFields → List PlacedComponentFields → List LinkFields → List PlacedComponentFields
    → List LinkFields
links_from frame all done [] = done
links_from frame all done (p ∷ more) =
    links_from frame all (links_onto frame all p done p.parts.links) more
