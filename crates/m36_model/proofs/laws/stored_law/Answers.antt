use Rattle.m36_model.proofs.laws.stored_law.Goals as goal
use Rattle.m36_model.proofs.StoredBack.{stored_is_loaded}

pub returns : goal.returns
returns c = stored_is_loaded
