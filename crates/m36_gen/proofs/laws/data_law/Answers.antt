use Rattle.m36_gen.proofs.DataRoom.{data_holds_all}
use Rattle.m36_gen.proofs.laws.data_law.Goals as goal

pub returns : goal.returns
returns c = data_holds_all
