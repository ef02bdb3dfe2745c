-- The catalog was read, or not.
use Rattle.cmd_folder.proofs.FolderSteps.{folder_read, folder_not}
use Rattle.cmd_folder.specs.Systems.{folder_result}
use Rattle.cmd_folder.proofs.reading.read_system.Goals as goal

pub returns-in-Ok-clause-performs : goal.returns-in-Ok-clause-performs
returns-in-Ok-clause-performs g c = λ may.
    folder_read may c.args.user.now c.in-Ok.access (folder_result c.read_files_and_boot.result) _ _ _ (c.in-Ok.ensures may) (c.read_files_and_boot.ensures.performs may)

pub returns-in-Err-clause-performs : goal.returns-in-Err-clause-performs
returns-in-Err-clause-performs g c = λ may. folder_not may c.args.user.now c.in-Err.status _ _ (c.in-Err.ensures may)
