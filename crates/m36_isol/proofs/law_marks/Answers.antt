use Rattle.m36_isol.proofs.CoreIsolated.{core_marks}
use Rattle.m36_isol.proofs.law_marks.Goals as goal

pub returns : goal.returns
returns c = core_marks
