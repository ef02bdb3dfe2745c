-- The files were read, and booted or not.
use Rattle.cmd_folder.proofs.FolderSteps.{files_given, files_not}
use Rattle.cmd_folder.proofs.reading.read_files_and_boot.Goals as goal

pub returns-in-Ok-clause-performs : goal.returns-in-Ok-clause-performs
returns-in-Ok-clause-performs g c = λ may.
    files_given may c.args.access c.in-Ok.files c.boot_files.result c.refusal_as_status.result _ _ (c.in-Ok.ensures.performs may) c.boot_files.ensures.gives c.refusal_as_status.ensures

pub returns-in-Err-clause-performs : goal.returns-in-Err-clause-performs
returns-in-Err-clause-performs g c = λ may. files_not may c.args.access c.in-Err.status _ _ (c.in-Err.ensures.performs may)
