-- Laws of the programs of commands: what they do if a file is refused, and what each kind of
-- command does with what it read.
use Rattle.std.specs.Prelude.{◌≡◌, List, [], Some, Result, Err}
use Rattle.m36_outside.specs.Files.{Files}
use Rattle.m36_world.specs.declared.event.Event.{Event}
use Rattle.m36_world.specs.Seen.{Seen}
use Rattle.m36_status.specs.declared.status.Status.{Status}
use Rattle.m36_program.specs.Alike.{IsEnd}
use Rattle.m36_program.specs.Performs.{Performs}
use Rattle.m36_program.specs.Reader.{reader_result}
use Rattle.m36_program.specs.MayHappen.{pieces_of}
use Rattle.cmd_folder.specs.BootedLaw.{BootedLaw}
use Rattle.cmd_image.specs.ImageEnds.{ImageEndLaw}
use Rattle.cmd_image.specs.OneText.{ImageTextLaw}
use Rattle.cmd_procs.specs.ProcsEnds.{ProcsEndLaw}
use Rattle.cmd_procs.specs.OneText.{ProcsTextLaw}
use Rattle.cmd_tools.specs.ToolLaws.{ToolLaws}
use Rattle.cmd_folder.specs.FolderLaw.{FolderLaw}
use Rattle.cmd_make.specs.MadeLaw.{MadeLaw}
use Rattle.cmd_debug.specs.Sessions.{DebugLaw, DebugTextLaw}
use Rattle.m36_top.specs.declared.command.Command.{Command}
use Rattle.m36_top.specs.Commands.{reader_of}
use Rattle.m36_top.specs.Programs.{program}

-- If the files are refused, each call of a command puts nothing. It ends with the status that
-- refuses the file, unless a call fails or memory runs out.
pub record IsRefused (status : Status) (events : List Event) (result : Result (Unit {0}) Status)
    : Type 0 where
  pub none_put : pieces_of events ≡ []
  pub refuses : IsEnd result → result ≡ Err status

-- The laws of all commands.
pub record CommandLaws : Type 0 where
  -- `FILE` is refused, or a file of the folder.
  pub refused :
      (command : Command) (files : Files) (status : Status) (result : Result (Unit {0}) Status)
      (old new : Seen)
      → old.files ≡ Some files → reader_result files (reader_of command) ≡ Some (Err status)
      → (performs : Performs (program command) result old new)
      → IsRefused status performs.events result
  -- `bare FILE` and `audit FILE`
  pub images : ImageEndLaw
  pub image_texts : ImageTextLaw
  -- `procs`
  pub processes : ProcsEndLaw
  pub process_texts : ProcsTextLaw
  -- `print`, `access`, `alm` and `bind`
  pub tools : ToolLaws
  -- `audit`, `run` and `trace` of the folder
  pub folders : FolderLaw
  pub systems : BootedLaw
  -- `make`
  pub made : MadeLaw
  -- `debug`
  pub sessions : DebugLaw
  pub session_texts : DebugTextLaw
