use Rattle.m36_isol.proofs.CoreIsolated.{core_reach}
use Rattle.m36_isol.proofs.CoreReach.{core_words}
use Rattle.m36_isol.proofs.law_reach.Goals as goal

pub returns-clause-content : goal.returns-clause-content
returns-clause-content c = core_reach

pub returns-clause-words : goal.returns-clause-words
returns-clause-words c = core_words
