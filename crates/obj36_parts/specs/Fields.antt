-- The fields of a definition, a link and a relocation, which are their models.
use Rattle.std.specs.Prelude.{ℕ, Bool, List}
use Rattle.obj36_parts.specs.declared.section.Section.{Section}

-- The fields of `Def`: the section and the offset there (`value`) that a definition names, and
-- whether it is an entry, which may be called.
pub record DefFields : Type 0 where
  pub section : Section
  pub value : ℕ
  pub is_entry : Bool

-- The fields of `Link`. `kind` is the type (1, 3, 4 or 5), `expr` the number that is added, and
-- `modifier` the tag of the pair that replaces the link when it is snapped.
pub record LinkFields : Type 0 where
  pub kind : ℕ
  pub section : Section
  pub name : List ℕ
  pub entry : List ℕ
  pub expr : ℕ
  pub modifier : ℕ

-- The fields of `Reloc`. A part of the word at `offset` of `section` is an offset in the section
-- `target`. The part is 0 for the left half, 1 for the right half, 2 for bits 3 to 17.
pub record RelocFields : Type 0 where
  pub section : Section
  pub offset : ℕ
  pub part : ℕ
  pub target : Section
