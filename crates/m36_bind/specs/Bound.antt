-- The result of binding: the bound object, or the first refusal.
--
--     B4   a section over its limit, an object of more than 2^18 words, or a relocated part of a
--          word that does not fit
--
-- B1 is checked first, over the whole file. Then come B2 and B3 of `object` lines, then B3 and B5
-- of `retain` lines, at the first such line, and B4 last.
use Rattle.std.specs.Prelude.{ℕ, ◌+◌, Bool, true, false, ◌&&◌, ◌||◌, if◌then◌else◌, List, [], ◌∷◌}
use Rattle.std.specs.Prelude.{◌++◌, Result, Ok, Err}
use Rattle.std.specs.List.{list_any}
use Rattle.obj36_parts.specs.Fields.{RelocFields}
use Rattle.obj36_parts.specs.PartsFields.{PartsFields}
use Rattle.obj36_parts.specs.ObjectSegment.{is_well_formed, sections_fit}
use Rattle.obj36_parts.specs.ObjectSegment.{version_of, padded_to_even}
use Rattle.obj36_parts.specs.declared.definition.Named.{Named}
use Rattle.m36_bindfile.specs.declared.fault.BindFault.{BindFault}
use Rattle.m36_bindfile.specs.declared.fault.BindFault.TheVariants as fault
use Rattle.m36_bindfile.specs.declared.line.BindLine.{BindLine}
use Rattle.m36_bindfile.specs.BindFile.{bind_lines, has_version_line}
use Rattle.m36_relocate.specs.Fields.{ShapeFields}
use Rattle.m36_bind.specs.Given.{NamedObjectsFields}
use Rattle.m36_relocate.specs.Layout.{relocated_place}
use Rattle.m36_relocate.specs.Words.{is_relocation_in, words_in, relocated_words, all_fit}
use Rattle.m36_text.specs.Results.{and_then}
use Rattle.m36_bind.specs.Components.{PlacedComponentFields, relocation_of, components_of_lines}
use Rattle.m36_bind.specs.Kept.{exports_from, with_retain_lines}
use Rattle.m36_bind.specs.Links.{links_from}
use Rattle.m36_relocate.specs.declared.layout.Relocation.{Relocation}

-- ---- the shape of the bound object

-- whether a component has version 2
abbrev pub is_newer_component : PlacedComponentFields → Bool
is_newer_component p = p.shape.newer

-- the number of static words of the bound object; n if there are no components
unfoldable pub statics_end : ℕ → List PlacedComponentFields → ℕ
statics_end n [] = n
statics_end n (p ∷ all) = statics_end (p.bases.statics + p.shape.statics) all

-- the number of links of the bound object; n if there are no components
unfoldable pub links_end : ℕ → List PlacedComponentFields → ℕ
links_end n [] = n
links_end n (p ∷ all) = links_end (p.bases.links + p.shape.links) all

-- the bound object has version 2 if a line asks for it or a component has it
abbrev pub is_newer_bound_object : Bool → List PlacedComponentFields → Bool
is_newer_bound_object asked all = asked || list_any is_newer_component all

-- the version of the bound object, and the numbers of its static words and links
unfoldable pub bound_shape_of : Bool → List PlacedComponentFields → ShapeFields
bound_shape_of asked all =
    record {
      newer = is_newer_bound_object asked all;
      statics = statics_end 0 all;
      links = links_end 0 all;
    }

-- ---- words: those of each component from an even word on

-- the words of a component, relocated: its text, or its static words
abbrev pub component_words : ShapeFields → Bool → PlacedComponentFields → List ℕ
component_words frame statics p =
    relocated_words (relocation_of frame p) statics p.parts.relocations (words_in statics p.parts)

-- the words, and after them those of components, each from an even word on
unfoldable pub with_component_words :
    ShapeFields → Bool → List ℕ → List PlacedComponentFields → List ℕ
with_component_words frame statics words [] = words
with_component_words frame statics words (p ∷ all) =
    with_component_words frame statics (padded_to_even words ++ component_words frame statics p) all

-- ---- relocations: each of the relocated word, with the same part and target

-- the relocation of the same word in the bound object
abbrev pub bound_relocation : Relocation → RelocFields → RelocFields
bound_relocation m r =
    let s = relocated_place m r.section r.offset in
    record { section = s.section; offset = s.offset; part = r.part; target = r.target }

-- the relocations so far, with one of the static words, or of the text, as `statics` says
abbrev pub with_relocation : Relocation → Bool → List RelocFields → RelocFields → List RelocFields
with_relocation m statics done r =
    if is_relocation_in statics r then done ++ bound_relocation m r ∷ [] else done

-- the relocations so far, with those of a component
unfoldable pub relocations_onto : Relocation → Bool → List RelocFields → List RelocFields
    → List RelocFields
relocations_onto m statics done [] = done
relocations_onto m statics done (r ∷ rs) =
    relocations_onto m statics (with_relocation m statics done r) rs

-- the relocations so far, with those of components
unfoldable pub relocations_from : ShapeFields → Bool → List RelocFields → List PlacedComponentFields
    → List RelocFields
relocations_from frame statics done [] = done
relocations_from frame statics done (p ∷ all) =
    relocations_from frame statics
    (relocations_onto (relocation_of frame p) statics done p.parts.relocations) all

-- ---- the parts

-- the entry bound of the first component
abbrev pub first_entry_bound : List PlacedComponentFields → ℕ
first_entry_bound [] = 0
first_entry_bound (p ∷ all) = p.parts.entry_bound

-- the parts of the bound object, given its definitions
unfoldable pub bound_parts : ShapeFields → List PlacedComponentFields → List Named → PartsFields
bound_parts frame all kept =
    record {
      text = with_component_words frame false [] all;
      statics = with_component_words frame true [] all;
      definitions = kept;
      links = links_from frame all [] all;
      relocations = relocations_from frame true (relocations_from frame false [] all) all;
      entry_bound = first_entry_bound all;
      version = version_of frame.newer;
    }

-- ---- B4

-- whether the relocated parts of all words of a component fit
abbrev pub component_fits : ShapeFields → PlacedComponentFields → Bool
component_fits frame p =
    all_fit (relocation_of frame p) false p.parts.text p.parts.relocations
    && all_fit (relocation_of frame p) true p.parts.statics p.parts.relocations

-- whether the relocated parts of all components fit
unfoldable pub components_fit : ShapeFields → List PlacedComponentFields → Bool
components_fit frame [] = true
components_fit frame (p ∷ all) = if component_fits frame p then components_fit frame all else false

-- the parts, or B4 if a section is too long
abbrev pub if_sections_fit : PartsFields → Result PartsFields BindFault
if_sections_fit parts = if sections_fit parts then Ok parts else Err (fault.B4 0)

-- the parts, or B4 if they are not well formed or a section is too long
abbrev pub checked_parts : PartsFields → Result PartsFields BindFault
checked_parts parts = if is_well_formed parts then if_sections_fit parts else Err (fault.B4 0)

-- the parts of the bound object, given its definitions, or B4
abbrev pub checked_bound_parts :
    ShapeFields → List PlacedComponentFields → List Named → Result PartsFields BindFault
checked_bound_parts frame all kept =
    if components_fit frame all then checked_parts (bound_parts frame all kept) else Err
    (fault.B4 0)

-- ---- the whole

-- the parts of the bound object, or the first of B3, B5 and B4
abbrev pub bound_object_of_components : ShapeFields → List PlacedComponentFields → List BindLine
    → Result PartsFields BindFault
bound_object_of_components frame all lines =
    and_then (with_retain_lines (exports_from frame [] all) [] 1 lines)
    (λ kept. checked_bound_parts frame all kept)

-- the parts of the bound object of a bind file, or its first refusal
abbrev pub bound_object_of_lines : NamedObjectsFields → List BindLine → Result PartsFields BindFault
bound_object_of_lines given lines =
    and_then (components_of_lines given lines)
    (λ all. bound_object_of_components (bound_shape_of (has_version_line lines) all) all lines)

-- The bound object of the components of a bind file, among objects that are given by name, or the
-- first refusal.
unfoldable pub bound_object_of :
    List ℕ → List (List ℕ) → List PartsFields → Result PartsFields BindFault
bound_object_of text names objects =
    and_then (bind_lines text)
    (λ lines. bound_object_of_lines (record { names = names; objects = objects }) lines)
