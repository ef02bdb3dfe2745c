use Rattle.m36_isol.proofs.Schedules.{jointly_isolated}
use Rattle.m36_isol.proofs.law_schedule.Goals as goal

pub returns : goal.returns
returns c = jointly_isolated
