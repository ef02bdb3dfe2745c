use Rattle.obj36_parts.proofs.NamePlaces.{nothing_laid}
use Rattle.obj36_parts.proofs.names.NameTable.new.Goals as goal

pub invariant_of-result : goal.invariant_of-result
invariant_of-result c = nothing_laid c.with_hasher.result.entries c.args.base c.with_hasher.ensures.empty c.requires
