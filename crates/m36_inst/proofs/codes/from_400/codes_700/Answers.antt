use Rattle.m36_inst.proofs.Blocks.{codes_700}
use Rattle.m36_inst.proofs.codes.from_400.codes_700.Goals as goal

pub returns : goal.returns
returns c = codes_700
