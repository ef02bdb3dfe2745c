-- The files were booted, or refused.
use Rattle.cmd_folder.specs.BootedSystems.{folder_of}
use Rattle.cmd_make.proofs.MakeSteps.{boot_given, boot_stopped}
use Rattle.cmd_make.proofs.answering.boot_made.Goals as goal

pub returns-in-Ok : goal.returns-in-Ok
returns-in-Ok g c =
    boot_given c.args.sets.now (folder_of c.in-Ok.booted) c.summarise.result _ _ c.in-Ok.ensures.goes
    (c.summarise.ensures c.in-Ok.booted.denied)

pub returns-in-Err : goal.returns-in-Err
returns-in-Err g c = boot_stopped c.args.sets.now c.in-Err.status _ c.in-Err.ensures.goes
