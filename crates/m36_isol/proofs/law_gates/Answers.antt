use Rattle.m36_isol.proofs.CoreIsolated.{core_gates}
use Rattle.m36_isol.proofs.law_gates.Goals as goal

pub returns : goal.returns
returns c = core_gates
