-- The number of words of an object, and of its linkage section.
use Rattle.std.specs.Prelude.{ℕ, ◌≡◌, ◌+◌, ◌^◌, ◌<◌, true, List, [], ◌∷◌, length, if◌then◌else◌}
use Rattle.obj36_parts.specs.PartsFields.{PartsFields}
use Rattle.obj36_parts.specs.declared.definition.Named.{Named}
use Rattle.obj36_parts.specs.Names.{with_names, name_size, all_name_words}
use Rattle.obj36_parts.specs.ObjectSegment.{has_definition, is_newer, linkage_section}
use Rattle.obj36_parts.specs.ObjectSegment.{linkage_length}

-- the number of words of names, each counted once
unfoldable pub distinct_names_size : List (List ℕ) → ℕ
distinct_names_size uses = length (all_name_words (with_names [] uses))

-- the number of words of names, counted as often as they occur
unfoldable pub total_names_size : List (List ℕ) → ℕ
total_names_size [] = 0
total_names_size (name ∷ names) = name_size name + total_names_size names

-- the number of words of a name; 0 if a definition has this name
unfoldable pub undefined_name_size : List Named → List ℕ → ℕ
undefined_name_size ds name = if has_definition name ds then 0 else name_size name

-- the number of words of names, counted as often as they occur, without those that definitions have
unfoldable pub undefined_names_size : List Named → List (List ℕ) → ℕ
undefined_names_size ds [] = 0
undefined_names_size ds (name ∷ names) = undefined_name_size ds name + undefined_names_size ds names

-- Each list has fewer than 2^32 items.
pub record HasShortLists (p : PartsFields) : Type 0 where
  pub text : length p.text < 2 ^ 32
  pub statics : length p.statics < 2 ^ 32
  pub definitions : length p.definitions < 2 ^ 32
  pub links : length p.links < 2 ^ 32
  pub relocations : length p.relocations < 2 ^ 32

-- The linkage section of an object with a static section ends where that section is placed: after
-- its head and its links.
abbrev pub LinkageEndsAfterLinks : Type 0
LinkageEndsAfterLinks =
    (p : PartsFields) → is_newer p ≡ true
    → length (linkage_section p) ≡ linkage_length 0 (length p.links)
