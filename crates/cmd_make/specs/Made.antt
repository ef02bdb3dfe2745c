-- What the files that are made boot to, and what `audit yes` promises of it.
use Rattle.std.specs.Prelude.{ℕ, List, [], Option, Some, None, Result, Ok, Err}
use Rattle.m36_status.specs.declared.setting.Set.{Set}
use Rattle.m36_status.specs.declared.status.Status.{Status}
use Rattle.m36_program.specs.Program.{quiet, Program, wants}
use Rattle.m36_program.specs.Reader.{reader_result}
use Rattle.cmd_folder.specs.Folder.{FolderFields}
use Rattle.cmd_folder.specs.Promise.{PassesFolderAudit}
use Rattle.cmd_folder.specs.FolderProgram.{folder_given}
use Rattle.cmd_make.specs.InMemory.{in_memory}
use Rattle.cmd_make.specs.Making.{files_in}
use Rattle.cmd_make.specs.Summary.{segment_count, head_line}

-- ---- booting

-- Puts the files into a folder in memory, and boots it as `run` does. Memory may run out.
unfoldable pub boot_files : List Set → Program quiet FolderFields
boot_files sets = wants (in_memory (files_in sets) (folder_given None))

-- what a folder with these files and no others boots to, or the status that refuses it
unfoldable pub boot_outcome : List Set → Option (Result FolderFields Status)
boot_outcome sets = reader_result (files_in sets) (folder_given {may = quiet} None)

-- ---- what `audit yes` promises

-- what `audit yes` promises of the system that a folder boots to; a refused folder has no such line
abbrev pub PassesIfBooted : Option (Result FolderFields Status) → Type 0
PassesIfBooted None = ⊥
PassesIfBooted (Some (Ok given)) = PassesFolderAudit given.lib
PassesIfBooted (Some (Err status)) = ⊥

-- what `audit yes` promises of the system that the files boot to
abbrev pub PassesMakeAudit : List Set → Type 0
PassesMakeAudit sets = PassesIfBooted (boot_outcome sets)

-- the first line, with the count of segments, by what the files boot to; empty if the folder is
-- refused
abbrev pub head_line_of_outcome : Option (Result FolderFields Status) → List ℕ
head_line_of_outcome None = []
head_line_of_outcome (Some (Ok given)) = head_line (segment_count given.lib)
head_line_of_outcome (Some (Err status)) = []

-- the first line that `make` puts of these files
abbrev pub head_line_of_files : List Set → List ℕ
head_line_of_files sets = head_line_of_outcome (boot_outcome sets)
