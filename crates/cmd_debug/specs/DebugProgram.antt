-- What `debug FILE` and `debug` do, as programs: read and decode the image, or read and boot the
-- folder; then hold a session over the machine.
use Rattle.std.specs.Prelude.{ℕ, List, None}
use Rattle.m36_model.specs.Store.{State}
use Rattle.m36_super.specs.BootResult.{IsBooted}
use Rattle.m36_super.specs.Library.{Library}
use Rattle.m36_program.specs.Program.{some, wants, then_with}
use Rattle.cmd_folder.specs.Folder.{FolderFields}
use Rattle.m36_debug.specs.SessionProgram.{Talk, session}
use Rattle.cmd_image.specs.ImageProgram.{image_state}
use Rattle.cmd_folder.specs.FolderProgram.{folder_given}
use Rattle.cmd_debug.specs.Held.{new_history, past_turning, super_turning}

-- A session over the machine of an image. Memory may run out before it.
unfoldable pub on_image : State (List ℕ) → Talk
on_image state = wants (session past_turning (new_history state))

-- `debug FILE`: reads the image of this file, and holds a session over its machine
unfoldable pub debug_image : List ℕ → Talk
debug_image name = then_with (image_state name) on_image

-- A session over the system that a library boots to, of which there is at most one. Memory may run
-- out before the session.
unfoldable pub on_library : Library → Talk
on_library lib = some (IsBooted lib) (λ system. wants (session super_turning system))

-- A session over the system that a folder boots to, as `on_library`.
abbrev pub on_folder : FolderFields → Talk
on_folder given = on_library given.lib

-- `debug`: reads and boots the folder, and holds a session over its system
unfoldable pub debug_folder : Talk
debug_folder = then_with (folder_given None) on_folder
