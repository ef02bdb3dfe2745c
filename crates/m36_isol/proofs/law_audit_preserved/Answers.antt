use Rattle.m36_isol.proofs.CoreReach.{core_kept}
use Rattle.m36_isol.proofs.law_audit_preserved.Goals as goal

pub returns : goal.returns
returns c = core_kept
