-- The objects that the binder is given, by their names. If two have one name, the first is used.
use Rattle.std.specs.Prelude.{ℕ, ◌≡◌, List, position, slice_get, is_some, if◌then◌else◌}
use Rattle.std.specs.Prelude.{Option, option_and_then}
use Rattle.std.specs.Map.{lookup}
use Rattle.indexmap.specs.IndexMap.{insert_entry}
use Rattle.obj36_parts.specs.PartsFields.{PartsFields}
use Rattle.obj36_parts.specs.Names.{same}

-- The names of the objects, and their parts. Object number i has name number i.
pub record NamedObjectsFields : Type 0 where
  pub names : List (List ℕ)
  pub objects : List PartsFields

-- the first object with a name
unfoldable pub object_named : NamedObjectsFields → List ℕ → Option PartsFields
object_named given name =
    option_and_then (slice_get given.objects) (position (same name) given.names)

-- ---- lookup of an object

-- the indexes of names, with that of one more, unless it has one
unfoldable pub with_index : List (List ℕ × ℕ) → List ℕ → ℕ → List (List ℕ × ℕ)
with_index places name place =
    if is_some (lookup (same name) places) then places else insert_entry same places name place

-- The table has the index of the first object of each name.
pub record IndexesAreFirst (names : List (List ℕ)) (places : List (List ℕ × ℕ)) : Type 0 where
  pub each : (name : List ℕ) → lookup (same name) places ≡ position (same name) names
