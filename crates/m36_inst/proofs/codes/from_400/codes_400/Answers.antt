use Rattle.m36_inst.proofs.Blocks.{codes_400}
use Rattle.m36_inst.proofs.codes.from_400.codes_400.Goals as goal

pub returns : goal.returns
returns c = codes_400
