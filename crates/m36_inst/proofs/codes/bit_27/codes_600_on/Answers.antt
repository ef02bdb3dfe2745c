use Rattle.m36_inst.proofs.Blocks.{codes_600_on}
use Rattle.m36_inst.proofs.codes.bit_27.codes_600_on.Goals as goal

pub returns : goal.returns
returns c = codes_600_on
