-- The program of each command.
use Rattle.std.specs.Prelude.{⊤, Option, Some, None}
use Rattle.m36_world.specs.Seen.{Seen}
use Rattle.m36_status.specs.declared.status.Status.{Status}
use Rattle.m36_program.specs.Early.{result_of_status}
use Rattle.m36_program.specs.Objects.{PerformsOver}
use Rattle.m36_program.specs.Program.{Program}
use Rattle.cmd_image.specs.declared.command.ImageCommand.TheVariants as image
use Rattle.cmd_image.specs.ImageProgram.{image_program}
use Rattle.cmd_debug.specs.DebugProgram.{debug_image, debug_folder}
use Rattle.cmd_folder.specs.FolderProgram.{folder_program}
use Rattle.cmd_make.specs.MakeProgram.{make_program}
use Rattle.cmd_procs.specs.ProcsProgram.{procs_program}
use Rattle.cmd_tools.specs.ToolPrograms.{print_program, access_program, alm_program, bind_program}
use Rattle.m36_top.specs.declared.command.Command.{Command}
use Rattle.m36_top.specs.declared.command.Command.TheVariants.{Bare, Audit, Booted, Procs}
use Rattle.m36_top.specs.declared.command.Command.TheVariants.{Access, Print, Alm, Bind}
use Rattle.m36_top.specs.declared.command.Command.TheVariants.{DebugFolder, DebugImage, Make}
use Rattle.m36_top.specs.Commands.{may_of}

-- what a command does, as a program; each crate of a command defines its own
abbrev pub program : (command : Command) → Program (may_of command) (Unit {0})
program (Bare file run) = image_program (image.Bare run) file
program (Audit file) = image_program image.Audit file
program (Booted command user) = folder_program command user
program (Procs file unaudited) = procs_program unaudited file
program (Access user) = access_program user
program (Print name) = print_program name
program (Alm files) = alm_program files
program (Bind files) = bind_program files
program DebugFolder = debug_folder
program (DebugImage file) = debug_image file
program (Make seed) = make_program seed

-- What the folder, the input and the output record of the call are events by which the command's
-- program goes to the status.
abbrev pub CommandPerforms : Command → Status → Seen → Seen → Type 0
CommandPerforms command result old new =
    PerformsOver (program command) (result_of_status result) old new

-- The call performs the program of the command that its words ask for. If they ask for none,
-- nothing is required.
abbrev pub TopPerforms : Option Command → Status → Seen → Seen → Type 0
TopPerforms None result old new = ⊤
TopPerforms (Some command) result old new = CommandPerforms command result old new
