use Rattle.m36_super.proofs.Paging.{paging_law, step_managed}
use Rattle.m36_super.proofs.law_paging.Goals as goal

pub returns-clause-paging : goal.returns-clause-paging
returns-clause-paging c = paging_law

pub returns-clause-step : goal.returns-clause-step
returns-clause-step c = step_managed
