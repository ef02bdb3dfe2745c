use Rattle.cmd_folder.proofs.FolderLaws.{folder_law}
use Rattle.cmd_folder.proofs.laws.law_folder.Goals as goal

pub returns : goal.returns
returns c = folder_law
