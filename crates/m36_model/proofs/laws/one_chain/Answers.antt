use Rattle.m36_model.proofs.laws.one_chain.Goals as goal
use Rattle.m36_model.proofs.ChainLaw.{one_chain_of_core}

pub returns : goal.returns
returns c = one_chain_of_core
