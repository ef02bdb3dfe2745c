use Rattle.m36_inst.proofs.QuickRows.{all_parts}
use Rattle.m36_inst.proofs.codes.quick.parts.Goals as goal

pub returns : goal.returns
returns c = all_parts
