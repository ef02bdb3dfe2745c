use Rattle.cmd_make.proofs.MadeEnds.{made_law}
use Rattle.cmd_make.proofs.laws.law_made.Goals as goal

pub returns : goal.returns
returns c = made_law
