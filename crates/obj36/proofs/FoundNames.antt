-- No definition has a name that is too long.
use Rattle.std.proofs.Common.{ℕ, ◌≡◌, ◌^◌, ◌≤◌, Bool, true, false, cond, ◌&&◌, leb, ltb, List, [], ◌∷◌, length, Some, None, refl, subst}
use Rattle.std.specs.List.{list_all}
use Rattle.std.proofs.lemmas.Bool.{and_parts}
use Rattle.obj36_parts.specs.declared.definition.Named.{Named}
use Rattle.obj36_parts.specs.Names.{same, is_name}
use Rattle.obj36_parts.specs.Sections.{class_number}
use Rattle.obj36_parts.specs.ObjectSegment.{greatest_class_number, is_valid_definition, definition_named}
use Rattle.obj36_parts.proofs.SizeLaws.{same_is}
use Rattle.obj36.proofs.NameReading.{good_name}

name_fits : (version : ℕ) (d : Named) → is_valid_definition version d ≡ true → length d.name ≤ 32
unfolding is_valid_definition
name_fits version d e =
    let b = and_parts (is_name d.name && ltb d.def.value (2 ^ 18)) (leb (class_number d.def.section) (greatest_class_number version)) e in
    (good_name d.name (and_parts (is_name d.name) (ltb d.def.value (2 ^ 18)) b.0).0).fits

pub long_name : (version : ℕ) (name : List ℕ) (ds : List Named) → list_all (is_valid_definition version) ds ≡ true → (length name ≤ 32 → ⊥) → None ≡ definition_named name ds
unfolding definition_named
long_name version name [] e long = refl
long_name version name (d ∷ ds) e long =
    let both = and_parts (is_valid_definition version d) (list_all (is_valid_definition version) ds) e in
    by (same d.name name) refl (name_fits version d both.0) (long_name version name ds both.1 long)
  where
    by : (b : Bool) → same d.name name ≡ b → length d.name ≤ 32 → None ≡ definition_named name ds → None ≡ cond b (Some d.def) (definition_named name ds)
    by true s fits later = absurd (long (subst (λ (n : List ℕ). length n ≤ 32) (same_is d.name name s) fits))
    by false s fits later = later
