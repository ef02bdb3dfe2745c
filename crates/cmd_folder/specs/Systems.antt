-- The value of the program that reads and boots a folder (`folder_given`), from the result of the
-- code.
use Rattle.std.specs.Prelude.{Result, Ok, Err}
use Rattle.m36_status.specs.declared.status.Status.{Status}
use Rattle.cmd_folder.specs.declared.booting.BootedFolder.{BootedFolder}
use Rattle.cmd_folder.specs.Folder.{FolderFields}
use Rattle.cmd_folder.specs.BootedSystems.{folder_of}

-- a result of the command with what the folder was booted from; a status stays as it is
abbrev pub folder_result : Result BootedFolder Status → Result FolderFields Status
folder_result (Ok booted) = Ok (folder_of booted)
folder_result (Err status) = Err status
