-- The files of a folder whose files are known.
use Rattle.std.specs.Prelude.{ℕ, List, Option, Some, None, nat_eq, if◌then◌else◌}
use Rattle.std.specs.Cmp.Lexicographic.{pointwise}

-- the bytes of the file with each name, or None if there is no such file
abbrev pub Files : Type 0
Files = List ℕ → Option (List ℕ)

-- the files with that of one name replaced, and every other unchanged
unfoldable pub with_file : List ℕ → Option (List ℕ) → Files → Files
with_file name content files other = if pointwise nat_eq other name then content else files other

-- as `with_file`, for files that may be unknown
abbrev pub with_known_file : List ℕ → Option (List ℕ) → Option Files → Option Files
with_known_file name content None = None
with_known_file name content (Some files) = Some (with_file name content files)
