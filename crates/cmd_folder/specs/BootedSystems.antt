-- A booted system, and the folder that it was booted from.
use Rattle.std.specs.Prelude.{Result, Ok}
use Rattle.m36_text.specs.Results.{and_then}
use Rattle.m36_super.specs.SuperFields.{SuperFields}
use Rattle.m36_super.specs.BootResult.{IsBooted}
use Rattle.m36_status.specs.declared.refusal.Refusal.{Refusal}
use Rattle.cmd_folder.specs.declared.booting.BootedFolder.{BootedFolder}
use Rattle.cmd_folder.specs.Folder.{FolderFields}

-- The system is as it was booted: no turn was made.
abbrev pub IsFresh : SuperFields → Type 0
IsFresh system = IsBooted system.lib system

-- what a booted folder was booted from: its library, and the lines `denied`
abbrev pub folder_of : BootedFolder → FolderFields
folder_of booted = record { lib = booted.system.lib; denied = booted.denied }

-- a result of booting with what the folder was booted from; a refusal stays as it is
abbrev pub folder_result : Result BootedFolder Refusal → Result FolderFields Refusal
folder_result read = and_then read (λ booted. Ok (folder_of booted))
