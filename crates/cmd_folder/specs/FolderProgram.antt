-- What `audit`, `run` and `trace` of a folder do, as programs: read the boot text, the access lists
-- if there is a user, and the file of each segment; then boot, audit and run the system.
use Rattle.std.specs.Prelude.{ℕ, List, [], Option}
use Rattle.m36_dir.specs.Fields.{SegmentFields}
use Rattle.m36_program.specs.Program.{May, quiet, Program, then_with}
use Rattle.m36_files.specs.Deciding.{rule_program}
use Rattle.m36_files.specs.FileReaders.{file_words}
use Rattle.m36_files.specs.EachFile.{read_each}
use Rattle.m36_files.specs.Catalogs.{catalog_access}
use Rattle.m36_files.specs.declared.access.Access.{Access}
use Rattle.cmd_folder.specs.declared.command.FolderCommand.{FolderCommand}
use Rattle.cmd_folder.specs.Folder.{FolderFields, folder_with, boot_result}
use Rattle.cmd_folder.specs.OnFolder.{on_folder}

-- the words of a segment's file
unfoldable pub segment_words : {may : May} → SegmentFields → Program may (List ℕ)
segment_words segment = file_words segment.file

-- Reads the files of the segments, and boots the catalog with them, or refuses it (U1 to U4).
unfoldable pub files_booted : {may : May} → Access → Program may FolderFields
files_booted access =
    then_with (read_each segment_words [] access.catalog.segments) (λ files.
    rule_program (boot_result (folder_with access files)))

-- the library that a folder is booted from, with the rights of a user if there is one
unfoldable pub folder_given : {may : May} → Option (List ℕ) → Program may FolderFields
folder_given user = then_with (catalog_access user) (λ access. files_booted access)

-- `audit`, `run` and `trace` of a folder
unfoldable pub folder_program : FolderCommand → Option (List ℕ) → Program quiet (Unit {0})
folder_program command user = then_with (folder_given user) (on_folder command)
