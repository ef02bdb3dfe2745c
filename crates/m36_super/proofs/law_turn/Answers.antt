use Rattle.m36_super.proofs.Turns.{loads_law, turn_law}
use Rattle.m36_super.proofs.Audited.{turn_audit, function_law}
use Rattle.m36_super.proofs.law_turn.Goals as goal

pub returns-clause-loads : goal.returns-clause-loads
returns-clause-loads c = loads_law

pub returns-clause-turn : goal.returns-clause-turn
returns-clause-turn c = turn_law

pub returns-clause-audit : goal.returns-clause-audit
returns-clause-audit c = turn_audit

pub returns-clause-function : goal.returns-clause-function
returns-clause-function c = function_law
