use Rattle.m36_isol.proofs.FlatLaw.{flat_lawful, flat_isolated}
use Rattle.m36_isol.proofs.law_flat.Goals as goal

pub returns : goal.returns
returns c = record { store = flat_lawful; window = flat_isolated }
