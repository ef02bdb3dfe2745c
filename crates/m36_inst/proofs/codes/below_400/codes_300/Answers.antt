use Rattle.m36_inst.proofs.Blocks.{codes_300}
use Rattle.m36_inst.proofs.codes.below_400.codes_300.Goals as goal

pub returns : goal.returns
returns c = codes_300
