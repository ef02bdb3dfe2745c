use Rattle.cmd_folder.proofs.OneRunLaws.{booted_law}
use Rattle.cmd_folder.proofs.laws.law_booted.Goals as goal

pub returns : goal.returns
returns c = booted_law
