use Rattle.m36_inst.proofs.Blocks.{codes_000}
use Rattle.m36_inst.proofs.codes.below_400.codes_000.Goals as goal

pub returns : goal.returns
returns c = codes_000
