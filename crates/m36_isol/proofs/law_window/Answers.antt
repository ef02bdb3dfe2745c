use Rattle.m36_isol.proofs.CoreIsolated.{core_isolated}
use Rattle.m36_isol.proofs.law_window.Goals as goal

pub returns : goal.returns
returns c = core_isolated
