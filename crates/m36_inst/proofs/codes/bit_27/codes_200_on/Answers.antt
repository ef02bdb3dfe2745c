use Rattle.m36_inst.proofs.Blocks.{codes_200_on}
use Rattle.m36_inst.proofs.codes.bit_27.codes_200_on.Goals as goal

pub returns : goal.returns
returns c = codes_200_on
