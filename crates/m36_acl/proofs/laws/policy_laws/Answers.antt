use Rattle.m36_acl.proofs.Firsts.{first_match_decides}
use Rattle.m36_acl.proofs.Modes.{modes_come_back}
use Rattle.m36_acl.proofs.ListsRead.{lists_once}
use Rattle.m36_acl.proofs.laws.policy_laws.Goals as goal

pub returns-clause-first : goal.returns-clause-first
returns-clause-first c = first_match_decides

pub returns-clause-modes : goal.returns-clause-modes
returns-clause-modes c = modes_come_back

pub returns-clause-once : goal.returns-clause-once
returns-clause-once c = lists_once
