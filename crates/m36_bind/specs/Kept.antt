-- The definitions of the bound object: those of the retained names, in their order.
--
--     B3   a `retain` line above has the name, or two components define it
--     B5   no component defines it
use Rattle.std.specs.Prelude.{ℕ, ◌+◌, ◌||◌, if◌then◌else◌, List, [], ◌∷◌, ◌++◌, Option, Some}
use Rattle.std.specs.Prelude.{None, Result, Ok, Err}
use Rattle.obj36_parts.specs.declared.definition.Named.{Named}
use Rattle.obj36_parts.specs.ObjectSegment.{has_definition}
use Rattle.m36_bindfile.specs.declared.fault.BindFault.{BindFault}
use Rattle.m36_bindfile.specs.declared.fault.BindFault.TheVariants as fault
use Rattle.m36_bindfile.specs.declared.line.BindLine.{BindLine}
use Rattle.m36_bindfile.specs.declared.line.BindLine.TheVariants as line
use Rattle.m36_relocate.specs.Fields.{ShapeFields}
use Rattle.m36_relocate.specs.Exports.{export_named, with_relocated_definitions}
use Rattle.m36_text.specs.Results.{and_then}
use Rattle.m36_bind.specs.Components.{PlacedComponentFields, relocation_of}
use Rattle.m36_relocate.specs.declared.exports.Export.{Export}

-- the definitions of all components, at their places in the bound object
unfoldable pub exports_from : ShapeFields → List (List ℕ × Export) → List PlacedComponentFields
    → List (List ℕ × Export)
exports_from frame table [] = table
exports_from frame table (p ∷ all) =
    exports_from frame (with_relocated_definitions
    (relocation_of frame p) table p.parts.definitions) all

-- the definitions so far with that of the name that line n retains, or the refusal of the line
abbrev pub with_retained : List Named → ℕ → List ℕ → Option Export → Result (List Named) BindFault
with_retained kept n name None = Err (fault.B5 n)
with_retained kept n name (Some e) =
    if has_definition name kept || e.twice then Err (fault.B3 n)
    else Ok (kept ++ record { name = name; def = e.def } ∷ [])

-- the definitions so far, with that of the name that line n retains if it is a `retain` line, or
-- the refusal of the line
abbrev pub with_retain_line : List (List ℕ × Export) → List Named → ℕ → BindLine
    → Result (List Named) BindFault
with_retain_line exports kept n line.Version = Ok kept
with_retain_line exports kept n (line.Object name) = Ok kept
with_retain_line exports kept n (line.Retain name) =
    with_retained kept n name (export_named name exports)

-- the definitions so far, with those that lines from line n on retain, or the first refusal of a
-- line
unfoldable pub with_retain_lines : List (List ℕ × Export) → List Named → ℕ → List BindLine
    → Result (List Named) BindFault
with_retain_lines exports kept n [] = Ok kept
with_retain_lines exports kept n (next ∷ lines) =
    and_then (with_retain_line exports kept n next)
    (λ more. with_retain_lines exports more (n + 1) lines)
