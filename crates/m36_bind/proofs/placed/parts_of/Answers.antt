use Rattle.m36_bind.proofs.Few.{few_parts}
use Rattle.m36_bind.proofs.placed.parts_of.Goals as goal

pub returns-clause-few : goal.returns-clause-few
returns-clause-few c = few_parts c.parts.result.now c.args.object.now c.parts.ensures c.parts_are_well_formed.ensures
