-- The place of a line: its section, how many words the lines above it place in each section, and
-- which sections of static words they have selected.
use Rattle.std.specs.Prelude.{ℕ, Bool}
use Rattle.obj36_parts.specs.declared.section.Section.{Section}

-- The fields of the place of a line. `text`, `inner` and `outer` count the words of the text, of
-- the static words of the linkage section, and of a static section, that the lines above place.
-- `uses_inner` and `uses_outer` say whether a `use` line above selects these sections.
pub record LocationCounter : Type 0 where
  pub text : ℕ
  pub inner : ℕ
  pub outer : ℕ
  pub section : Section
  pub uses_inner : Bool
  pub uses_outer : Bool
