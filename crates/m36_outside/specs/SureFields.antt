-- A folder and an input in memory that never fail: their content and their logs.
use Rattle.std.specs.Prelude.{ℕ, List}
use Rattle.m36_outside.specs.FolderCalls.{Asked, Wrote}
use Rattle.m36_outside.specs.declared.file_list.NamedFile.{NamedFile}

-- the files, and the logs of reads and writes
pub record SureFolderFields : Type 0 where
  pub files : List NamedFile
  pub asked : List Asked
  pub wrote : List Wrote

-- the bytes that are left, and the pieces given
pub record SureLinesFields : Type 0 where
  pub left : List ℕ
  pub given : List (List ℕ)
