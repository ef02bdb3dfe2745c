-- The folder was read and booted, or not.
use Rattle.m36_debug.specs.SessionProgram.{talking}
use Rattle.cmd_debug.proofs.DebugSteps.{folder_read, folder_unread}
use Rattle.cmd_debug.proofs.answering.debug_folder.Goals as goal

pub returns-in-Ok : goal.returns-in-Ok
returns-in-Ok g c =
    folder_read (record { lib = c.in-Ok.booted.system.lib; denied = c.in-Ok.booted.denied }) c.hold_system_session.result _ _ _ (c.in-Ok.ensures.performs talking) c.hold_system_session.ensures

pub returns-in-Err : goal.returns-in-Err
returns-in-Err g c = folder_unread c.in-Err.status _ _ (c.in-Err.ensures.performs talking)
