use Rattle.m36_isol.proofs.CoreIsolated.{core_agree}
use Rattle.m36_isol.proofs.law_agree.Goals as goal

pub returns : goal.returns
returns c = core_agree
