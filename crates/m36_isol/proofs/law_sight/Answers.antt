use Rattle.m36_isol.proofs.CoreIsolated.{core_sight, core_depends}
use Rattle.m36_isol.proofs.law_sight.Goals as goal

pub returns-clause-depends : goal.returns-clause-depends
returns-clause-depends c = core_depends

pub returns-clause-refers : goal.returns-clause-refers
returns-clause-refers c = core_sight
