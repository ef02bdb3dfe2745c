use Rattle.m36_inst.proofs.NamesInOrder.{is_index}
use Rattle.m36_inst.proofs.names.names.Goals as goal

pub returns : goal.returns
returns c = is_index
