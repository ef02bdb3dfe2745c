use Rattle.m36_isol.proofs.Rights.{rights_law}
use Rattle.m36_isol.proofs.law_rights.Goals as goal

pub returns : goal.returns
returns c = rights_law
