-- The entry of a name in a table of definitions.
use Rattle.std.proofs.Common.{ℕ, ◌≡◌, Bool, true, false, cond, List, [], ◌∷◌, Option, Some, None, refl, sym, ap, ◌∙◌, true≢false}
use Rattle.std.specs.Prelude.{not, option_map}
use Rattle.std.specs.List.{filter}
use Rattle.std.specs.Map.{lookup}
use Rattle.indexmap.specs.IndexMap.{insert_entry}
use Rattle.obj36_parts.specs.Fields.{DefFields}
use Rattle.obj36_parts.specs.Names.{same}
use Rattle.obj36_parts.specs.ObjectSegment.{definition_named}
use Rattle.obj36_parts.specs.declared.definition.Named.{Named}
use Rattle.obj36_parts.proofs.SizeLaws.{same_is, same_self}
use Rattle.m36_relocate.specs.Exports.{export_named, export_after, with_export, is_symbol, with_own_definition, with_own_definitions, EntriesAreFirst}
use Rattle.m36_relocate.specs.declared.exports.Export.{Export}

pub found_then : (name other : List ℕ) (table : List (List ℕ × Export)) (x : Export)
    → lookup (same name) (insert_entry same table other x) ≡ cond (same name other) (Some x) (lookup (same name) table)
found_then name other [] x = refl
found_then name other (e ∷ table) x = by (same other e.0) refl (found_then name other table x)
  where
    by : (s : Bool) → same other e.0 ≡ s → lookup (same name) (insert_entry same table other x) ≡ cond (same name other) (Some x) (lookup (same name) table)
        → lookup (same name) (cond s ((e.0, x) ∷ table) (e ∷ insert_entry same table other x)) ≡ cond (same name other) (Some x) (cond (same name e.0) (Some e.1) (lookup (same name) table))
    by true is later =
        let key : other ≡ e.0 = same_is other e.0 is in
        again (same name e.0) ∙ ap (λ (n : List ℕ). cond (same name n) (Some x) (cond (same name e.0) (Some e.1) (lookup (same name) table))) (sym key)
      where
        again : (b : Bool) → cond b (Some x) (lookup (same name) table) ≡ cond b (Some x) (cond b (Some e.1) (lookup (same name) table))
        again true = refl
        again false = refl
    by false is later =
        ap (λ (o : Option Export). cond (same name e.0) (Some e.1) o) later
        ∙ apart (same name e.0) (same name other) refl refl
      where
        apart : (a b : Bool) → same name e.0 ≡ a → same name other ≡ b
            → cond a (Some e.1) (cond b (Some x) (lookup (same name) table)) ≡ cond b (Some x) (cond a (Some e.1) (lookup (same name) table))
        apart true true here there =
            let both : other ≡ e.0 = sym (same_is name other there) ∙ same_is name e.0 here in
            absurd (true≢false (sym (ap (λ (n : List ℕ). same other n) (sym both) ∙ same_self other) ∙ is))
        apart true false here there = refl
        apart false true here there = refl
        apart false false here there = refl

same_turned : (a b : List ℕ) → same a b ≡ same b a
same_turned a b = by (same a b) (same b a) refl refl
  where
    back : (x y : List ℕ) → same x y ≡ true → same y x ≡ true
    back x y is = ap (λ (n : List ℕ). same n x) (sym (same_is x y is)) ∙ same_self x

    by : (s t : Bool) → same a b ≡ s → same b a ≡ t → s ≡ t
    by true true e f = refl
    by false false e f = refl
    by true false e f = absurd (true≢false (sym (back a b e) ∙ f))
    by false true e f = absurd (true≢false (sym (back b a f) ∙ e))

-- ---- the first definition

abbrev def_in : Option Export → Option DefFields
def_in o = option_map (λ (e : Export). e.def) o

abbrev first_of : Option DefFields → Option DefFields → Option DefFields
first_of None later = later
first_of (Some f) later = Some f

or_none : (o : Option DefFields) → o ≡ first_of o None
or_none None = refl
or_none (Some f) = refl

noted : (a b : Bool) (o p : Option Export) (f : DefFields) (later : Option DefFields) → a ≡ b → (a ≡ true → p ≡ o)
    → first_of (def_in (cond a (Some (export_after f p)) o)) later ≡ first_of (def_in o) (cond b (Some f) later)
noted true true o p f later e same_entry =
    ap (λ (q : Option Export). Some (export_after f q).def) (same_entry refl) ∙ by o
  where
    by : (q : Option Export) → Some (export_after f q).def ≡ first_of (def_in q) (Some f)
    by None = refl
    by (Some g) = refl
noted true false o p f later e same_entry = absurd (true≢false e)
noted false true o p f later e same_entry = absurd (true≢false (sym e))
noted false false o p f later e same_entry = refl

abbrev counted : List Named → List Named
counted ds = filter (λ d. not (is_symbol d.def.section)) ds

more : (name : List ℕ) (table : List (List ℕ × Export)) (d : Named) (ds : List Named) (b : Bool)
    → first_of (def_in (lookup (same name) (cond b table (with_export table d.name d.def)))) (definition_named name ds)
    ≡ first_of (def_in (lookup (same name) table)) (definition_named name (cond (not b) (d ∷ ds) ds))
unfolding with_export export_named definition_named
more name table d ds true = refl
more name table d ds false =
    let x = export_after d.def (lookup (same d.name) table) in
    ap (λ (o : Option Export). first_of (def_in o) (definition_named name ds)) (found_then name d.name table x)
    ∙ noted (same name d.name) (same d.name name) (lookup (same name) table) (lookup (same d.name) table) d.def
    (definition_named name ds) (same_turned name d.name) (λ is. ap (λ (n : List ℕ). lookup (same n) table) (sym (same_is name d.name is)))

entries_from : (name : List ℕ) (table : List (List ℕ × Export)) (ds : List Named)
    → def_in (lookup (same name) (with_own_definitions table ds)) ≡ first_of (def_in (lookup (same name) table)) (definition_named name (counted ds))
unfolding with_own_definitions definition_named
entries_from name table [] = or_none (def_in (lookup (same name) table))
entries_from name table (d ∷ ds) =
    entries_from name (with_own_definition table d) ds ∙ more name table d (counted ds) (is_symbol d.def.section)

pub entries_stand : EntriesAreFirst
unfolding export_named
entries_stand name ds = entries_from name [] ds
