-- A list of named files. If a name occurs twice, the first file with it counts.
use Rattle.std.specs.Prelude.{ℕ, Bool, List, [], ◌∷◌, Some, None, nat_eq, if◌then◌else◌}
use Rattle.std.specs.Cmp.Lexicographic.{pointwise}
use Rattle.m36_outside.specs.Files.{Files}
use Rattle.m36_outside.specs.declared.file_list.NamedFile.{NamedFile}

-- the file has this name
abbrev pub has_name : List ℕ → NamedFile → Bool
has_name name file = pointwise nat_eq name file.name

-- the list as a function from names to contents
abbrev pub file_named : List NamedFile → Files
file_named [] name = None
file_named (file ∷ files) name =
    if has_name name file then Some file.content else file_named files name
