-- The index of names: rows in ascending order of their names, each with its operation code. A name
-- is found by binary search.
use Rattle.std.specs.Prelude.{ℕ, ◌≡◌, ◌+◌, ◌*◌, ◌^◌, ◌<◌, Bool, false, List, Some, length, map}
use Rattle.std.specs.Prelude.{slice_index_or}
use Rattle.m36_inst.specs.Lookup.{name_at}
use Rattle.m36_inst.specs.declared.names.CodeOfName.{CodeOfName}

-- one of the first five characters of a name, or a blank if the name is shorter
abbrev pub letter : List ℕ → ℕ → ℕ
letter name i = slice_index_or name i 0x20

-- A name as a number, by its first five characters. Names are ordered by these numbers.
unfoldable pub key : List ℕ → ℕ
key name =
    letter name 0 * 2 ^ 32 + letter name 1 * 2 ^ 24 + letter name 2 * 2 ^ 16 + letter name 3 * 2 ^ 8
    + letter name 4

-- the name of row i, as a number
abbrev pub key_at : List CodeOfName → ℕ → ℕ
key_at rows i = slice_index_or (map (λ r. key r.name) rows) i 0

-- the operation code of row i
abbrev pub code_at : List CodeOfName → ℕ → ℕ
code_at rows i = slice_index_or (map (λ r. r.code) rows) i 0

-- bit 27 of row i
abbrev pub bit27_at : List CodeOfName → ℕ → Bool
bit27_at rows i = slice_index_or (map (λ r. r.bit27) rows) i false

-- there is a row with this operation code and bit 27, whose name has this number
pub record HasRow (rows : List CodeOfName) (code : ℕ) (bit27 : Bool) (wanted : ℕ) : Type 0 where
  pub place : ℕ
  pub inside : place < length rows
  pub key_is : key_at rows place ≡ wanted
  pub code_is : code_at rows place ≡ code
  pub bit27_is : bit27_at rows place ≡ bit27

-- the numbers of the names are in ascending order
abbrev pub IsRising : List CodeOfName → Type 0
IsRising rows = (i j : ℕ) → i < j → j < length rows → key_at rows i < key_at rows j

-- The rows are in ascending order, and each operation code that has a name has a row.
pub record IsIndex (rows : List CodeOfName) : Type 0 where
  pub rising : IsRising rows
  pub complete : (code : ℕ) (bit27 : Bool) (name : List ℕ) → name_at code bit27 ≡ Some name
      → HasRow rows code bit27 (key name)
