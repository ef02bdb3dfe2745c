use Rattle.m36_inst.proofs.Blocks.{codes_500}
use Rattle.m36_inst.proofs.codes.from_400.codes_500.Goals as goal

pub returns : goal.returns
returns c = codes_500
