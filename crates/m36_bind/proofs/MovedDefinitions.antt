-- The definitions of the bound object are those of the retained names.
use Rattle.std.proofs.Common.{ℕ, zero, suc, ◌≡◌, ◌+◌, inl, inr, Bool, true, false, cond, ◌||◌, List, [], ◌∷◌, ◌++◌, Option, Some, None, Result, Ok, Err, refl, sym, ap, subst, ◌∙◌, arith}
use Rattle.std.specs.Prelude.{◌⊎◌}
use Rattle.std.proofs.lemmas.List.Elements.{Contains-push_cases}
use Rattle.std.specs.List.{list_any, Contains}
use Rattle.std.specs.Map.{lookup}
use Rattle.std.proofs.lemmas.List.{append-nil, append_assoc}
use Rattle.obj36_parts.specs.Fields.{DefFields}
use Rattle.obj36_parts.specs.PartsFields.{PartsFields}
use Rattle.obj36_parts.specs.Names.{same}
use Rattle.obj36_parts.specs.ObjectSegment.{definition_names}
use Rattle.obj36_parts.specs.declared.definition.Named.{Named}
use Rattle.obj36_parts.proofs.SizeLaws.{same_is, definition_names-append}
use Rattle.m36_bindfile.specs.declared.fault.BindFault.{BindFault}
use Rattle.m36_bindfile.specs.declared.fault.BindFault.TheVariants as fault
use Rattle.m36_bindfile.specs.declared.line.BindLine.{BindLine}
use Rattle.m36_bindfile.specs.declared.line.BindLine.TheVariants as line
use Rattle.m36_bindfile.specs.BindFile.{retained_names}
use Rattle.m36_relocate.specs.Fields.{ShapeFields}
use Rattle.m36_relocate.specs.Layout.{shape_of}
use Rattle.m36_relocate.specs.Exports.{export_named, export_after, with_export, is_symbol, relocated_def, with_relocated_definition, with_relocated_definitions}
use Rattle.m36_text.specs.Results.{and_then}
use Rattle.m36_bind.specs.Components.{PlacedComponentFields, relocation_of}
use Rattle.m36_bind.specs.Kept.{exports_from, with_retained, with_retain_lines}
use Rattle.m36_bind.specs.Meaning.{DefinitionSource}
use Rattle.m36_relocate.specs.declared.exports.Export.{Export}
use Rattle.m36_relocate.proofs.Entries.{found_then}
use Rattle.m36_bind.proofs.Images.{IsWithin, spot_names}

-- the definition of a component for one of the bound object
pub record IsDefined (frame : ShapeFields) (all : List PlacedComponentFields) (name : List ℕ) (def : DefFields) : Type 0 where
  pub component : PlacedComponentFields
  pub one : Contains all component
  pub old : Named
  pub among : Contains component.parts.definitions old
  pub name_is : old.name ≡ name
  pub counts : is_symbol old.def.section ≡ false
  pub moved : def ≡ relocated_def (relocation_of frame component) old.def

module _ (frame : ShapeFields) (whole : List PlacedComponentFields) where
  -- the entry of a name in a table
  IsSound : List (List ℕ × Export) → Type 0
  IsSound table = (name : List ℕ) (e : Export) → export_named name table ≡ Some e → IsDefined frame whole name e.def

  some_is : (a b : Export) → Some a ≡ Some b → a ≡ b
  some_is a b e = ap (λ o. or a o) e
    where
      or : Export → Option Export → Export
      or x None = x
      or x (Some y) = y

  named_again : (name other : List ℕ) (def : DefFields) → other ≡ name → IsDefined frame whole other def → IsDefined frame whole name def
  named_again name other def is defined = subst (λ (n : List ℕ). IsDefined frame whole n def) is defined

  sound_with : (table : List (List ℕ × Export)) (name : List ℕ) (def : DefFields) → IsSound table → IsDefined frame whole name def → IsSound (with_export table name def)
  unfolding with_export export_named IsSound
  sound_with table name def sound defined other e found =
      by (same other name) refl (sym (found_then other name table (export_after def (lookup (same name) table))) ∙ found)
    where
      value : (o : Option Export) → lookup (same name) table ≡ o → IsDefined frame whole name (export_after def o).def
      value None is = defined
      value (Some first) is = sound name first is

      by : (b : Bool) → same other name ≡ b → cond b (Some (export_after def (lookup (same name) table))) (lookup (same other) table) ≡ Some e → IsDefined frame whole other e.def
      by true is this =
          named_again other name e.def (sym (same_is other name is))
          (subst (λ (x : Export). IsDefined frame whole name x.def) (some_is (export_after def (lookup (same name) table)) e this) (value (lookup (same name) table) refl))
      by false is this = sound other e this

  sound_moved : (table : List (List ℕ × Export)) (p : PlacedComponentFields) (ds : List Named) → IsSound table → Contains whole p → ((d : Named) → Contains ds d → Contains p.parts.definitions d)
      → IsSound (with_relocated_definitions (relocation_of frame p) table ds)
  unfolding with_relocated_definitions
  sound_moved table p [] sound there are = sound
  sound_moved table p (d ∷ ds) sound there are =
      sound_moved (with_relocated_definition (relocation_of frame p) table d) p ds (by (is_symbol d.def.section) refl) there
      (λ x among. are x (suc among.0, omega (arith, among.1), among.2))
    where
      by : (b : Bool) → is_symbol d.def.section ≡ b → IsSound (cond b table (with_export table d.name (relocated_def (relocation_of frame p) d.def)))
      by true is = sound
      by false is =
          sound_with table d.name (relocated_def (relocation_of frame p) d.def) sound
          (record { component = p; one = there; old = d; among = are d (zero, omega arith, refl); name_is = refl; counts = is; moved = refl })

  sound_from : (table : List (List ℕ × Export)) (all : List PlacedComponentFields) → IsSound table → ((p : PlacedComponentFields) → Contains all p → Contains whole p)
      → IsSound (exports_from frame table all)
  unfolding exports_from
  sound_from table [] sound are = sound
  sound_from table (p ∷ all) sound are =
      sound_from (with_relocated_definitions (relocation_of frame p) table p.parts.definitions) all
      (sound_moved table p p.parts.definitions sound (are p (zero, omega arith, refl)) (λ d among. among))
      (λ q among. are q (suc among.0, omega (arith, among.1), among.2))

  none_sound : IsSound []
  unfolding export_named IsSound
  none_sound name e found = absurd cc

-- ---- the retained definitions

list_is : (a b : List Named) → ◌≡◌ {A = Result (List Named) BindFault} (Ok a) (Ok b) → a ≡ b
list_is a b e = ap (λ r. or a r) e
  where
    or : List Named → Result (List Named) BindFault → List Named
    or x (Ok y) = y
    or x (Err told) = x

pub kept_names : (exports : List (List ℕ × Export)) (kept new : List Named) (n : ℕ) (lines : List BindLine) → with_retain_lines exports kept n lines ≡ Ok new
    → definition_names new ≡ definition_names kept ++ retained_names lines
unfolding with_retain_lines retained_names definition_names
kept_names exports kept new n [] e = ap definition_names (sym (list_is kept new e)) ∙ sym (append-nil (definition_names kept))
kept_names exports kept new n (line.Version ∷ lines) e = kept_names exports kept new (n + 1) lines e
kept_names exports kept new n (line.Object name ∷ lines) e = kept_names exports kept new (n + 1) lines e
kept_names exports kept new n (line.Retain name ∷ lines) e = by (export_named name exports) (λ more. kept_names exports more new (n + 1) lines) e
  where
    added : (x : Export) (b : Bool) → ((more : List Named) → with_retain_lines exports more (n + 1) lines ≡ Ok new → definition_names new ≡ definition_names more ++ retained_names lines)
        → and_then (cond b (Err (fault.B3 n)) (Ok (kept ++ record { name = name; def = x.def } ∷ []))) (λ more. with_retain_lines exports more (n + 1) lines) ≡ Ok new
        → definition_names new ≡ definition_names kept ++ (name ∷ retained_names lines)
    added x true go e = absurd cc
    added x false go e =
        let one : Named = record { name = name; def = x.def } in
        go (kept ++ one ∷ []) e
        ∙ ap (λ (ns : List (List ℕ)). ns ++ retained_names lines) (definition_names-append kept (one ∷ []))
        ∙ append_assoc (definition_names kept) (name ∷ []) (retained_names lines)

    by : (o : Option Export) → ((more : List Named) → with_retain_lines exports more (n + 1) lines ≡ Ok new → definition_names new ≡ definition_names more ++ retained_names lines) → and_then (with_retained kept n name o) (λ more. with_retain_lines exports more (n + 1) lines) ≡ Ok new
        → definition_names new ≡ definition_names kept ++ (name ∷ retained_names lines)
    by None go e = absurd cc
    by (Some x) go e = added x (list_any (λ d. same name d.name) kept || x.twice) go e

kept_sound : (frame : ShapeFields) (all : List PlacedComponentFields) (exports : List (List ℕ × Export)) (kept new : List Named) (n : ℕ) (lines : List BindLine) → IsSound frame all exports
    → ((d : Named) → Contains kept d → IsDefined frame all d.name d.def) → with_retain_lines exports kept n lines ≡ Ok new
    → (d : Named) → Contains new d → IsDefined frame all d.name d.def
unfolding with_retain_lines IsSound
kept_sound frame all exports kept new n [] sound are e = subst (λ (ds : List Named). (d : Named) → Contains ds d → IsDefined frame all d.name d.def) (list_is kept new e) are
kept_sound frame all exports kept new n (line.Version ∷ lines) sound are e = kept_sound frame all exports kept new (n + 1) lines sound are e
kept_sound frame all exports kept new n (line.Object name ∷ lines) sound are e = kept_sound frame all exports kept new (n + 1) lines sound are e
kept_sound frame all exports kept new n (line.Retain name ∷ lines) sound are e =
    by (export_named name exports) refl (λ more these. kept_sound frame all exports more new (n + 1) lines sound these) e
  where
    added : (x : Export) (b : Bool) → export_named name exports ≡ Some x
        → ((more : List Named) → ((d : Named) → Contains more d → IsDefined frame all d.name d.def) → with_retain_lines exports more (n + 1) lines ≡ Ok new
        → (d : Named) → Contains new d → IsDefined frame all d.name d.def)
        → and_then (cond b (Err (fault.B3 n)) (Ok (kept ++ record { name = name; def = x.def } ∷ []))) (λ more. with_retain_lines exports more (n + 1) lines) ≡ Ok new
        → (d : Named) → Contains new d → IsDefined frame all d.name d.def
    added x true found go e = absurd cc
    added x false found go e =
        let one : Named = record { name = name; def = x.def } in
        go (kept ++ one ∷ []) (λ d among. either d (Contains-push_cases kept one d among)) e
      where
        either : (d : Named) → Contains kept d ⊎ (record { name = name; def = x.def } ≡ d) → IsDefined frame all d.name d.def
        either d (inl old) = are d old
        either d (inr is) = subst (λ (y : Named). IsDefined frame all y.name y.def) is (sound name x found)

    by : (o : Option Export) → export_named name exports ≡ o
        → ((more : List Named) → ((d : Named) → Contains more d → IsDefined frame all d.name d.def) → with_retain_lines exports more (n + 1) lines ≡ Ok new
        → (d : Named) → Contains new d → IsDefined frame all d.name d.def)
        → and_then (with_retained kept n name o) (λ more. with_retain_lines exports more (n + 1) lines) ≡ Ok new
        → (d : Named) → Contains new d → IsDefined frame all d.name d.def
    by None found go e = absurd cc
    by (Some x) found go e = added x (list_any (λ d. same name d.name) kept || x.twice) found go e

pub kept_source : (frame : ShapeFields) (all : List PlacedComponentFields) (kept new : List Named) (n : ℕ) (lines : List BindLine)
    → ((d : Named) → Contains kept d → IsDefined frame all d.name d.def) → with_retain_lines (exports_from frame [] all) kept n lines ≡ Ok new
    → (d : Named) → Contains new d → IsDefined frame all d.name d.def
kept_source frame all kept new n lines are e =
    kept_sound frame all (exports_from frame [] all) kept new n lines (sound_from frame all [] all (none_sound frame all) (λ p among. among)) are e

pub defined_means : (bound : PartsFields) (frame : ShapeFields) (all : List PlacedComponentFields) (name : List ℕ) (def : DefFields) → frame ≡ shape_of bound
    → ((p : PlacedComponentFields) → Contains all p → IsWithin bound p) → IsDefined frame all name def → DefinitionSource bound all name def
defined_means bound frame all name def is within defined =
    let p = defined.component in
    let old = defined.old in
    let moved : def ≡ relocated_def (relocation_of (shape_of bound) p) old.def = defined.moved ∙ ap (λ (f : ShapeFields). relocated_def (relocation_of f p) old.def) is in
    subst (λ (d : DefFields). DefinitionSource bound all name d) (sym moved)
    (record {
      component = p;
      one = defined.one;
      old = old;
      among = defined.among;
      name_is = defined.name_is;
      counts = defined.counts;
      names = spot_names bound p (within p defined.one) old.def.section old.def.value;
      is_entry = refl;
    })
