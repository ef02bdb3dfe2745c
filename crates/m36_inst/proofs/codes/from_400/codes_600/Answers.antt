use Rattle.m36_inst.proofs.Blocks.{codes_600}
use Rattle.m36_inst.proofs.codes.from_400.codes_600.Goals as goal

pub returns : goal.returns
returns c = codes_600
