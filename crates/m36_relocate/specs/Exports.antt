-- Tables of definitions by their names: the first definition of each name, and whether another
-- follows. Definitions of class symbol are left out.
use Rattle.std.specs.Prelude.{ℕ, ◌≡◌, Bool, true, false, not, if◌then◌else◌, List, [], ◌∷◌}
use Rattle.std.specs.Prelude.{Option, Some, None, option_map}
use Rattle.std.specs.List.{filter}
use Rattle.std.specs.Map.{lookup}
use Rattle.indexmap.specs.IndexMap.{insert_entry}
use Rattle.obj36_parts.specs.Fields.{DefFields}
use Rattle.obj36_parts.specs.Names.{same}
use Rattle.obj36_parts.specs.ObjectSegment.{definition_named}
use Rattle.obj36_parts.specs.declared.definition.Named.{Named}
use Rattle.obj36_parts.specs.declared.section.Section.{Section}
use Rattle.obj36_parts.specs.declared.section.Section.TheVariants.{Text, Linkage, Symbol, Static}
use Rattle.m36_relocate.specs.Layout.{relocated_place}
use Rattle.m36_relocate.specs.declared.layout.Relocation.{Relocation}
use Rattle.m36_relocate.specs.declared.exports.Export.{Export}

-- the entry of a name, if the table has one
unfoldable pub export_named : List ℕ → List (List ℕ × Export) → Option Export
export_named name table = lookup (same name) table

-- the entry of a name after one more definition of it
abbrev pub export_after : DefFields → Option Export → Export
export_after def None = record { def = def; twice = false }
export_after def (Some first) = record { def = first.def; twice = true }

-- the table with one more definition of a name
unfoldable pub with_export : List (List ℕ × Export) → List ℕ → DefFields → List (List ℕ × Export)
with_export table name def =
    insert_entry same table name (export_after def (export_named name table))

-- whether a definition with this section is of class symbol
abbrev pub is_symbol : Section → Bool
is_symbol Symbol = true
is_symbol Text = false
is_symbol Linkage = false
is_symbol Static = false

-- the table with definition d at the place `def`; one of class symbol is left out
abbrev pub with_definition : List (List ℕ × Export) → Named → DefFields → List (List ℕ × Export)
with_definition table d def =
    if is_symbol d.def.section then table else with_export table d.name def

-- ---- the definitions of one component, at their places there

-- the table with a definition of a component, at its place there
abbrev pub with_own_definition : List (List ℕ × Export) → Named → List (List ℕ × Export)
with_own_definition table d = with_definition table d d.def

-- the table with the definitions of a component, at their places there
unfoldable pub with_own_definitions : List (List ℕ × Export) → List Named → List (List ℕ × Export)
with_own_definitions table [] = table
with_own_definitions table (d ∷ ds) = with_own_definitions (with_own_definition table d) ds

-- For each name, the table of an object's definitions has the first definition of that name whose
-- class is not symbol.
abbrev pub EntriesAreFirst : Type 0
EntriesAreFirst =
    (name : List ℕ) (ds : List Named)
    → option_map (λ (e : Export). e.def) (export_named name (with_own_definitions [] ds))
    ≡ definition_named name (filter (λ d. not (is_symbol d.def.section)) ds)

-- ---- the definitions of a component, at their places in the bound object

-- a definition, at its place in the bound object
abbrev pub relocated_def : Relocation → DefFields → DefFields
relocated_def m d =
    let s = relocated_place m d.section d.value in
    record { section = s.section; value = s.offset; is_entry = d.is_entry }

-- the table with a definition of a component, at its place in the bound object
abbrev pub with_relocated_definition :
    Relocation → List (List ℕ × Export) → Named → List (List ℕ × Export)
with_relocated_definition m table d = with_definition table d (relocated_def m d.def)

-- the table with the definitions of a component, at their places in the bound object
unfoldable pub with_relocated_definitions :
    Relocation → List (List ℕ × Export) → List Named → List (List ℕ × Export)
with_relocated_definitions m table [] = table
with_relocated_definitions m table (d ∷ ds) =
    with_relocated_definitions m (with_relocated_definition m table d) ds
