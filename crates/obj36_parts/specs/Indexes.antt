-- The hash tables of definitions and links, by which a name or a link is found.
use Rattle.std.specs.Prelude.{ℕ, ◌≡◌, ◌+◌, ◌*◌, ◌^◌, Bool, ◌&&◌, nat_eq, List, [], position}
use Rattle.std.specs.Prelude.{is_some}
use Rattle.std.specs.List.{list_any}
use Rattle.std.specs.Map.{lookup}
use Rattle.m36_text.specs.Once.{appended_unless}
use Rattle.obj36_parts.specs.Fields.{DefFields, LinkFields}
use Rattle.obj36_parts.specs.declared.definition.Named.{Named}
use Rattle.obj36_parts.specs.Names.{same, with_names, names_in}
use Rattle.obj36_parts.specs.Sections.{class_number, same_section}
use Rattle.obj36_parts.specs.ObjectSegment.{definition_names, all_link_names}
use Rattle.obj36_parts.specs.ObjectSegment.{definition_named}

-- the table of the first definition of each name, after one more definition, which is added unless
-- the table has its name
unfoldable pub with_first_definition : List (List ℕ × DefFields) → Named → List (List ℕ × DefFields)
with_first_definition firsts d =
    appended_unless (is_some (lookup (same d.name) firsts)) firsts (d.name, d.def)

-- The table has each name of the definitions once, with the place of its first definition.
pub record AreFirsts (definitions : List Named) (firsts : List (List ℕ × DefFields)) : Type 0 where
  pub names_are : names_in firsts ≡ with_names [] (definition_names definitions)
  pub firsts_are : (name : List ℕ) → lookup (same name) firsts ≡ definition_named name definitions

-- all fields of a link but its names, as one number for its hash
abbrev pub link_hash_number : LinkFields → ℕ
link_hash_number l =
    l.expr + 2 ^ 18 * l.modifier + 2 ^ 24 * l.kind + 2 ^ 32 * class_number l.section

-- whether two links are equal in all fields
unfoldable pub same_link : LinkFields → LinkFields → Bool
same_link a b =
    nat_eq a.kind b.kind && same_section a.section b.section
    && same a.name b.name && same a.entry b.entry
    && nat_eq a.expr b.expr && nat_eq a.modifier b.modifier

-- whether a list has a link
abbrev pub has_link : LinkFields → List LinkFields → Bool
has_link link links = list_any (same_link link) links

-- the table of the first index of each link, after one more link at the index `place`, which is
-- added unless the table has it
unfoldable pub with_first_index : List (LinkFields × ℕ) → LinkFields → ℕ → List (LinkFields × ℕ)
with_first_index places link place =
    appended_unless (is_some (lookup (same_link link) places)) places (link, place)

-- The tables have the first index of each link, and the names that the links use.
pub record AreIndexed (links : List LinkFields) (places : List (LinkFields × ℕ))
    (names : List (List ℕ)) : Type 0 where
  pub places_are : (link : LinkFields)
      → lookup (same_link link) places ≡ position (same_link link) links
  pub names_are : names ≡ with_names [] (all_link_names links)
