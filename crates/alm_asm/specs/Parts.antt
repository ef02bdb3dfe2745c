-- The parts of an object, made of what the lines place and define.
use Rattle.std.specs.Prelude.{ℕ}
use Rattle.obj36_parts.specs.PartsFields.{PartsFields}
use Rattle.obj36_parts.specs.ObjectSegment.{version_of}
use Rattle.alm_asm.specs.declared.tables.Tables.{Tables}
use Rattle.alm_asm.specs.declared.parts.PlacedWords.{PlacedWords}
use Rattle.alm_asm.specs.declared.parts.DefinitionsAndRelocations.{DefinitionsAndRelocations}

-- The parts of an object, put together from the words that the lines place, their definitions and
-- relocations, and the links in the tables.
abbrev pub parts_from_tables : Tables → PlacedWords → DefinitionsAndRelocations → ℕ → PartsFields
parts_from_tables tables placed noted entry_bound =
    record {
      text = placed.text;
      statics = placed.statics;
      definitions = noted.definitions;
      links = tables.links;
      relocations = noted.relocations;
      entry_bound = entry_bound;
      version = version_of tables.uses_outer;
    }
