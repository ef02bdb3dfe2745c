-- The search for a segment by a reference name.
use Rattle.std.specs.Prelude.{ℕ, List, ◌∷◌, ◌++◌, Option, option_map}
use Rattle.std.specs.Prelude.{filter_map, option_to_list, slice_get}
use Rattle.m36_dir.specs.Catalog.{CatalogFields, find_segment}
use Rattle.m36_link.specs.Fields.{KnownFields}
use Rattle.m36_link.specs.Known.{catalog_number, initiated_segment}

-- The directories that are searched, in order: that of the segment that refers to the name, the
-- working directory, and the libraries.
abbrev pub directories_searched : CatalogFields → ℕ → List ℕ
directories_searched catalog from = from ∷ catalog.work ∷ catalog.libraries

-- the number of the segment with a name in a directory, if there is one
unfoldable pub find_in_directory : CatalogFields → List ℕ → ℕ → Option ℕ
find_in_directory catalog name dir = option_map catalog_number (find_segment catalog dir name)

-- The candidates in their order: the segment that is initiated under the name in the ring, and the
-- segment of that name in each directory.
unfoldable pub candidates : KnownFields → CatalogFields → ℕ → List ℕ → ℕ → List ℕ
candidates known catalog ring name from =
    option_to_list (initiated_segment known.names ring name)
    ++ filter_map (find_in_directory catalog name) (directories_searched catalog from)

-- The first candidate is taken, and never a later one.
unfoldable pub search_result : KnownFields → CatalogFields → ℕ → List ℕ → ℕ → Option ℕ
search_result known catalog ring name from = slice_get (candidates known catalog ring name from) 0
