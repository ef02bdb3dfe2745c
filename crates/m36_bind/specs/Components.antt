-- The components of a bind file: the objects that its lines name, and where the words of each
-- begin.
--
--     B2   no object of the name is given
--     B3   an `object` line above has the name
use Rattle.std.specs.Prelude.{ℕ, ◌≡◌, ◌+◌, ◌*◌, ◌^◌, ◌≤◌, if◌then◌else◌, List, [], ◌∷◌}
use Rattle.std.specs.Prelude.{◌++◌, length, map, position, slice_get, Option, Some, None, Result}
use Rattle.std.specs.Prelude.{Ok, Err, option_and_then}
use Rattle.std.specs.List.{list_any}
use Rattle.m36_text.specs.Results.{and_then}
use Rattle.obj36_parts.specs.PartsFields.{PartsFields}
use Rattle.obj36_parts.specs.Names.{same}
use Rattle.obj36_parts.specs.ObjectSegment.{segment_limit}
use Rattle.m36_bindfile.specs.declared.fault.BindFault.{BindFault}
use Rattle.m36_bindfile.specs.declared.fault.BindFault.TheVariants as fault
use Rattle.m36_bindfile.specs.declared.line.BindLine.{BindLine}
use Rattle.m36_bindfile.specs.declared.line.BindLine.TheVariants as line
use Rattle.m36_bindfile.specs.BindFile.{IsBindRefusal}
use Rattle.m36_relocate.specs.Fields.{ShapeFields, BasesFields}
use Rattle.m36_bind.specs.Given.{NamedObjectsFields, object_named}
use Rattle.m36_relocate.specs.Layout.{shape_of, first_bases, next_bases}
use Rattle.m36_relocate.specs.Exports.{with_own_definitions}
use Rattle.m36_relocate.specs.declared.exports.Export.{Export}
use Rattle.m36_relocate.specs.declared.layout.Relocation.{Relocation}

-- A component: the name by which others refer to it, its parts and their shape, where they begin in
-- the bound object, and its definitions by their names.
pub record PlacedComponentFields : Type 0 where
  pub name : List ℕ
  pub parts : PartsFields
  pub shape : ShapeFields
  pub bases : BasesFields
  pub entries : List (List ℕ × Export)

-- the component with this name, these parts and definitions, whose words begin at these bases
abbrev pub component :
    List ℕ → PartsFields → BasesFields → List (List ℕ × Export) → PlacedComponentFields
component name p b table =
    record { name = name; parts = p; shape = shape_of p; bases = b; entries = table }

-- how the places of a component are relocated to those of a bound object with this shape
abbrev pub relocation_of : ShapeFields → PlacedComponentFields → Relocation
relocation_of frame p = record { frame = frame; shape = p.shape; bases = p.bases }

-- components in their order, and where the next begins
pub record PlacedComponents : Type 0 where
  pub placed : List PlacedComponentFields
  pub next : BasesFields

-- no components; the first one begins at word 0
abbrev pub no_components : PlacedComponents
no_components = record { placed = []; next = first_bases }

-- the names of components
abbrev pub names_of : List PlacedComponentFields → List (List ℕ)
names_of all = map (λ p. p.name) all

-- the components, with one more after them
abbrev pub with_component : PlacedComponents → PlacedComponentFields → PlacedComponents
with_component all p =
    record { placed = all.placed ++ p ∷ []; next = next_bases all.next p.parts }

-- ---- the component of a name

-- the component with this name, if there is one
unfoldable pub component_named : List ℕ → List PlacedComponentFields → Option PlacedComponentFields
component_named name all =
    option_and_then (slice_get all) (position (same name) (names_of all))

-- ---- the lines in order

-- the components, with the object that was found for line n, or the refusal of the line
abbrev pub with_found_object :
    PlacedComponents → ℕ → List ℕ → Option PartsFields → Result PlacedComponents BindFault
with_found_object all n name None = Err (fault.B2 n)
with_found_object all n name (Some p) =
    if list_any (same name) (names_of all.placed) then Err (fault.B3 n)
    else Ok (with_component all (component name p all.next (with_own_definitions [] p.definitions)))

-- the components, with that of line n if it is an `object` line, or the refusal of the line
abbrev pub with_component_of_line :
    NamedObjectsFields → PlacedComponents → ℕ → BindLine → Result PlacedComponents BindFault
with_component_of_line given all n line.Version = Ok all
with_component_of_line given all n (line.Object name) =
    with_found_object all n name (object_named given name)
with_component_of_line given all n (line.Retain name) = Ok all

-- the components, with those of lines from line n on
unfoldable pub with_components_of_lines : NamedObjectsFields → PlacedComponents → ℕ → List BindLine
    → Result PlacedComponents BindFault
with_components_of_lines given all n [] = Ok all
with_components_of_lines given all n (next ∷ lines) =
    and_then (with_component_of_line given all n next)
    (λ more. with_components_of_lines given more (n + 1) lines)

-- The result of a call that changes `new` is that of the definition. It may be NoMemory whatever
-- the definition gives.
abbrev pub ChangesOrRefuses : {A B : Type 0} → A → Result B BindFault → Result A BindFault → Type 0
ChangesOrRefuses new (Ok done) definition = definition ≡ Ok new
ChangesOrRefuses new (Err told) definition = IsBindRefusal told definition

-- the components, without where the next one would begin
abbrev pub components_in : PlacedComponents → List PlacedComponentFields
components_in all = all.placed

-- all components that lines name
unfoldable pub components_of_lines :
    NamedObjectsFields → List BindLine → Result (List PlacedComponentFields) BindFault
components_of_lines given lines =
    and_then (with_components_of_lines given no_components 1 lines) (λ all. Ok (components_in all))

-- The result of a call that changes the components to `new` and returns where the next one begins.
abbrev pub AddsComponent :
    List PlacedComponentFields → Result BasesFields BindFault → Result PlacedComponents BindFault
    → Type 0
AddsComponent new (Ok next) definition = definition ≡ Ok (record { placed = new; next = next })
AddsComponent new (Err told) definition = IsBindRefusal told definition

-- Each base is at most 2^19 times n. This holds before line n of a bind file, since a component has
-- at most 2^18 words of text, 2^18 static words and 2^18 links.
pub record BasesAreBounded (b : BasesFields) (n : ℕ) : Type 0 where
  pub text : b.text ≤ 2 ^ 19 * n
  pub statics : b.statics ≤ 2 ^ 19 * n
  pub links : b.links ≤ 2 ^ 19 * n

-- an object has at most 2^18 words of text, 2^18 static words and 2^18 links
pub record HasShortParts (p : PartsFields) : Type 0 where
  pub text : length p.text ≤ segment_limit
  pub statics : length p.statics ≤ segment_limit
  pub links : length p.links ≤ segment_limit
