use Rattle.m36_inst.proofs.Blocks.{codes_100}
use Rattle.m36_inst.proofs.codes.below_400.codes_100.Goals as goal

pub returns : goal.returns
returns c = codes_100
