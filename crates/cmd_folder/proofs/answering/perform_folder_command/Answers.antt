-- The folder was read and booted, or not.
use Rattle.m36_program.specs.Program.{quiet}
use Rattle.cmd_folder.proofs.FolderSteps.{folder_answered, folder_refused}
use Rattle.cmd_folder.proofs.answering.perform_folder_command.Goals as goal

pub returns-in-Ok : goal.returns-in-Ok
returns-in-Ok g c =
    folder_answered c.args.command c.args.user.now (record { lib = c.in-Ok.booted.system.lib; denied = c.in-Ok.booted.denied }) c.audit_system_and_answer.result _ _ _ (c.in-Ok.ensures.performs quiet) c.audit_system_and_answer.ensures

pub returns-in-Err : goal.returns-in-Err
returns-in-Err g c = folder_refused c.args.command c.args.user.now c.in-Err.status _ _ (c.in-Err.ensures.performs quiet)
