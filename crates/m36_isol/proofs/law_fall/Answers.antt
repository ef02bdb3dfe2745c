use Rattle.m36_isol.proofs.CoreIsolated.{core_fall}
use Rattle.m36_isol.proofs.law_fall.Goals as goal

pub returns : goal.returns
returns c = core_fall
