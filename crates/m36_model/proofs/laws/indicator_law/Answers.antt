use Rattle.m36_model.proofs.laws.indicator_law.Goals as goal
use Rattle.m36_model.proofs.Indicators.{indicators_come_back}

pub returns : goal.returns
returns c = indicators_come_back
