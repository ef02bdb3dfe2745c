use Rattle.m36_inst.proofs.Blocks.{codes_200}
use Rattle.m36_inst.proofs.codes.below_400.codes_200.Goals as goal

pub returns : goal.returns
returns c = codes_200
