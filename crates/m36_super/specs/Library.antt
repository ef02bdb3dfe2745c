-- The parts of a booted system that never change.
use Rattle.std.specs.Prelude.{ℕ, List}
use Rattle.m36_dir.specs.Catalog.{CatalogFields}

-- the catalog, and the words of the file of each of its segments
pub record Library : Type 0 where
  pub catalog : CatalogFields
  pub files : List (List ℕ)
